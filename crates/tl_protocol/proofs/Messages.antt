-- Permissions, copies, and what the messages on C say of them.
use Rattle.std.proofs.Common.{◌≡◌, ◌≢◌, ℕ, ◌≤◌, true, false, List, Option, Some, None, refl, ap, arith}
use Rattle.tl_types.specs.Permission.{rank, grow_from, prune_from, prune_to, probe_perm, grant_perm}
use Rattle.tl_types.specs.Message.{probe_answer, surrender, surrender_bytes, upward_to, upward_bytes}
use Rattle.tl_types.specs.Bodies.{upward_from}
use Rattle.tl_types.specs.declared.permission.Perm.{Perm}
use Rattle.tl_types.specs.declared.permission.Perm.TheVariants.{None as p_None, Branch, Tip}
use Rattle.tl_types.specs.declared.permission.Grow.{Grow}
use Rattle.tl_types.specs.declared.permission.Grow.TheVariants.{NtoB, NtoT, BtoT}
use Rattle.tl_types.specs.declared.permission.Prune.{Prune}
use Rattle.tl_types.specs.declared.permission.Prune.TheVariants.{TtoB, TtoN, BtoN}
use Rattle.tl_types.specs.declared.permission.ProbeCap.{ProbeCap}
use Rattle.tl_types.specs.declared.permission.ProbeCap.TheVariants.{ToB as cap_ToB, ToN as cap_ToN}
use Rattle.tl_types.specs.declared.permission.GrantCap.{GrantCap}
use Rattle.tl_types.specs.declared.permission.GrantCap.TheVariants.{ToB, ToT}
use Rattle.tl_types.specs.declared.message.ProbeAnswer.TheVariants.{TtoB as a_TtoB, TtoN as a_TtoN, BtoB as a_BtoB, BtoN as a_BtoN, NtoN as a_NtoN}
use Rattle.tl_types.specs.declared.message.Surrender.{Surrender}
use Rattle.tl_types.specs.declared.message.Surrender.TheVariants.{TtoB as s_TtoB, TtoN as s_TtoN, BtoN as s_BtoN}
use Rattle.tl_types.specs.declared.message.Upward.{Upward}
use Rattle.tl_types.specs.declared.message.Upward.TheVariants.{ProbeAck, Release}
use Rattle.tl_protocol.specs.declared.copy.CachedCopy.{CachedCopy}
use Rattle.tl_protocol.specs.declared.copy.CachedCopy.TheVariants.{Absent, Readable, Writable}
use Rattle.tl_protocol.specs.Client.{bytes_or, grant_bytes}
use Rattle.tl_protocol.specs.Copy.{perm_of, bytes_of, dirty_bytes, clean_copy, reduced}
use Rattle.tl_protocol.proofs.Invariant.{IsCurrent, IsData, IsSent, IsThere, Leads}

-- ## Permissions

-- only the permission None has rank 0
pub rank_none : (perm : Perm) → rank perm ≤ 0 → perm ≡ p_None
rank_none p_None low = refl
rank_none Branch low = absurd (omega arith)
rank_none Tip low = absurd (omega arith)

-- no Acquire starts from Tip
pub grow_not_tip : (grow : Grow) → grow_from grow ≢ Tip
grow_not_tip NtoB e = cc
grow_not_tip NtoT e = cc
grow_not_tip BtoT e = cc

-- no Grant gives None
pub grant_not_none : (cap : GrantCap) → grant_perm cap ≢ p_None
grant_not_none ToB e = cc
grant_not_none ToT e = cc

-- no message on C leads to Tip
pub to_not_tip : (message : Upward) → upward_to message ≢ Tip
to_not_tip (ProbeAck (a_TtoB bytes)) e = cc
to_not_tip (ProbeAck (a_TtoN bytes)) e = cc
to_not_tip (ProbeAck a_BtoB) e = cc
to_not_tip (ProbeAck a_BtoN) e = cc
to_not_tip (ProbeAck a_NtoN) e = cc
to_not_tip (Release (s_TtoB bytes)) e = cc
to_not_tip (Release (s_TtoN bytes)) e = cc
to_not_tip (Release s_BtoN) e = cc

-- no message on C leads upward
pub to_le : (message : Upward) → rank (upward_to message) ≤ rank (upward_from message)
to_le (ProbeAck (a_TtoB bytes)) = omega arith
to_le (ProbeAck (a_TtoN bytes)) = omega arith
to_le (ProbeAck a_BtoB) = omega arith
to_le (ProbeAck a_BtoN) = omega arith
to_le (ProbeAck a_NtoN) = omega arith
to_le (Release (s_TtoB bytes)) = omega arith
to_le (Release (s_TtoN bytes)) = omega arith
to_le (Release s_BtoN) = omega arith

-- a message that starts from None leads to None
pub none_to_none : (message : Upward) → upward_from message ≡ p_None → upward_to message ≡ p_None
none_to_none message e = rank_none (upward_to message) (omega (arith, to_le message, ap rank e))

-- a Release starts above None
pub release_not_none : (given : Surrender) → upward_from (Release given) ≢ p_None
release_not_none (s_TtoB bytes) e = cc
release_not_none (s_TtoN bytes) e = cc
release_not_none s_BtoN e = cc

-- ## Copies

-- only a copy at Tip is dirty
pub dirty_copy_tip : (held : CachedCopy) → IsThere (dirty_bytes held) → perm_of held ≡ Tip
dirty_copy_tip Absent there = absurd there
dirty_copy_tip (Readable bytes) there = absurd there
dirty_copy_tip (Writable bytes dirty) there = refl

-- a copy below Tip has no dirty bytes
pub not_dirty : (held : CachedCopy) → perm_of held ≢ Tip → dirty_bytes held ≡ None
not_dirty Absent n = refl
not_dirty (Readable bytes) n = refl
not_dirty (Writable bytes true) n = absurd (n refl)
not_dirty (Writable bytes false) n = refl

-- the bytes of a copy that is there are the bytes last stored
pub bytes_now : (now : List ℕ) (held : CachedCopy) → perm_of held ≢ p_None → IsCurrent now held → bytes_of held ≡ now
bytes_now now Absent n current = absurd (n refl)
bytes_now now (Readable bytes) n current = current
bytes_now now (Writable bytes dirty) n current = current

-- a reduced copy still has the bytes last stored
pub reduced_current :
    (now : List ℕ) (held : CachedCopy) (to : Perm) → IsCurrent now held → IsCurrent now (reduced held to)
reduced_current now held p_None current = tt
reduced_current now Absent Branch current = tt
reduced_current now (Readable bytes) Branch current = current
reduced_current now (Writable bytes dirty) Branch current = current
reduced_current now held Tip current = current

-- a probed copy is below Tip
pub reduced_not_tip : (held : CachedCopy) (cap : ProbeCap) → perm_of (reduced held (probe_perm cap)) ≢ Tip
reduced_not_tip Absent cap_ToB e = cc
reduced_not_tip Absent cap_ToN e = cc
reduced_not_tip (Readable bytes) cap_ToB e = cc
reduced_not_tip (Readable bytes) cap_ToN e = cc
reduced_not_tip (Writable bytes dirty) cap_ToB e = cc
reduced_not_tip (Writable bytes dirty) cap_ToN e = cc

-- a clean copy of the bytes last stored is current
pub clean_current : (now : List ℕ) (to : Perm) (bytes : List ℕ) → bytes ≡ now → IsCurrent now (clean_copy to bytes)
clean_current now p_None bytes e = tt
clean_current now Branch bytes e = e
clean_current now Tip bytes e = e

-- a clean copy has the permission that it was made with
pub clean_perm : (to : Perm) (bytes : List ℕ) → perm_of (clean_copy to bytes) ≡ to
clean_perm p_None bytes = refl
clean_perm Branch bytes = refl
clean_perm Tip bytes = refl

-- ## Messages on C

-- a Release leads from the copy's permission to that of the reduced copy
pub prune_leads :
    (now : List ℕ) (held : CachedCopy) (prune : Prune) → IsCurrent now held → perm_of held ≡ prune_from prune
    → Leads now (perm_of held) (Release (surrender prune (dirty_bytes held))) (perm_of (reduced held (prune_to prune)))
prune_leads now Absent TtoB current e = cc
prune_leads now Absent TtoN current e = cc
prune_leads now Absent BtoN current e = cc
prune_leads now (Readable bytes) TtoB current e = cc
prune_leads now (Readable bytes) TtoN current e = cc
prune_leads now (Readable bytes) BtoN current e = (refl, refl, tt)
prune_leads now (Writable bytes true) TtoB current e = (refl, refl, (current, refl))
prune_leads now (Writable bytes true) TtoN current e = (refl, refl, (current, refl))
prune_leads now (Writable bytes true) BtoN current e = cc
prune_leads now (Writable bytes false) TtoB current e = (refl, refl, tt)
prune_leads now (Writable bytes false) TtoN current e = (refl, refl, tt)
prune_leads now (Writable bytes false) BtoN current e = cc

-- and so does an answer to a Probe
pub answer_leads :
    (now : List ℕ) (held : CachedCopy) (cap : ProbeCap) → IsCurrent now held
    → Leads now (perm_of held) (ProbeAck (probe_answer (perm_of held) cap (dirty_bytes held)))
    (perm_of (reduced held (probe_perm cap)))
answer_leads now Absent cap_ToB current = (refl, refl, tt)
answer_leads now Absent cap_ToN current = (refl, refl, tt)
answer_leads now (Readable bytes) cap_ToB current = (refl, refl, tt)
answer_leads now (Readable bytes) cap_ToN current = (refl, refl, tt)
answer_leads now (Writable bytes true) cap_ToB current = (refl, refl, (current, refl))
answer_leads now (Writable bytes true) cap_ToN current = (refl, refl, (current, refl))
answer_leads now (Writable bytes false) cap_ToB current = (refl, refl, tt)
answer_leads now (Writable bytes false) cap_ToN current = (refl, refl, tt)

-- a Release of a clean copy has no data
pub clean_release : (prune : Prune) (bytes : Option (List ℕ)) → bytes ≡ None → surrender_bytes (surrender prune bytes) ≡ None
clean_release TtoB bytes e = e
clean_release TtoN bytes e = e
clean_release BtoN bytes e = refl

-- a Release of a dirty copy has its bytes
pub dirty_release :
    (held : CachedCopy) (prune : Prune) → perm_of held ≡ prune_from prune → IsThere (dirty_bytes held)
    → IsThere (surrender_bytes (surrender prune (dirty_bytes held)))
dirty_release held TtoB e there = there
dirty_release held TtoN e there = there
dirty_release held BtoN e there = let tip : perm_of held ≡ Tip = dirty_copy_tip held there in cc

-- an answer of a dirty copy has its bytes
pub dirty_answer :
    (held : CachedCopy) (cap : ProbeCap) → IsThere (dirty_bytes held)
    → IsThere (upward_bytes (ProbeAck (probe_answer (perm_of held) cap (dirty_bytes held))))
dirty_answer Absent cap there = absurd there
dirty_answer (Readable bytes) cap there = absurd there
dirty_answer (Writable bytes dirty) cap_ToB there = there
dirty_answer (Writable bytes dirty) cap_ToN there = there

-- data comes from Tip
pub data_tip : (now : List ℕ) (bytes : Option (List ℕ)) (from : Perm) → IsThere bytes → IsData now bytes from → from ≡ Tip
data_tip now None from there brings = absurd there
data_tip now (Some bytes) from there brings = brings.1

-- from None no data comes
pub none_data :
    (now later : List ℕ) (bytes : Option (List ℕ)) (from : Perm) → from ≡ p_None → IsData now bytes from
    → IsData later bytes from
none_data now later None from e brings = tt
none_data now later (Some bytes) from e brings = cc

-- ## Grants

-- a Grant brings data just where the client has none
pub is_sent :
    (now bytes : List ℕ) (held : CachedCopy) → perm_of held ≢ Tip → IsCurrent now held → bytes ≡ now
    → IsSent (grant_bytes (perm_of held) bytes) now held
is_sent now bytes Absent n current e = (refl, e)
is_sent now bytes (Readable own) n current e = ap Readable current
is_sent now bytes (Writable own dirty) n current e = absurd (n refl)

-- no Grant is on its way to a client with Tip
pub sent_not_tip :
    (now : List ℕ) (held : CachedCopy) (bytes : Option (List ℕ)) → IsSent bytes now held → perm_of held ≢ Tip
sent_not_tip now held None sent e = let readable : perm_of held ≡ Branch = ap perm_of sent in cc
sent_not_tip now held (Some bytes) sent e = let absent : perm_of held ≡ p_None = ap perm_of sent.0 in cc

-- a Grant never lowers a permission
pub sent_le :
    (now : List ℕ) (held : CachedCopy) (bytes : Option (List ℕ)) (cap : GrantCap) → IsSent bytes now held
    → rank (perm_of held) ≤ rank (grant_perm cap)
sent_le now held None ToB sent = omega (arith, ap (λ (copy : CachedCopy). rank (perm_of copy)) sent)
sent_le now held None ToT sent = omega (arith, ap (λ (copy : CachedCopy). rank (perm_of copy)) sent)
sent_le now held (Some bytes) ToB sent = omega (arith, ap (λ (copy : CachedCopy). rank (perm_of copy)) sent.0)
sent_le now held (Some bytes) ToT sent = omega (arith, ap (λ (copy : CachedCopy). rank (perm_of copy)) sent.0)

-- what the client has after a Grant are the bytes last stored
pub sent_current :
    (now : List ℕ) (held : CachedCopy) (bytes : Option (List ℕ)) → IsSent bytes now held → bytes_or bytes (bytes_of held) ≡ now
sent_current now held None sent = ap bytes_of sent
sent_current now held (Some bytes) sent = sent.1
