-- The messages between one client and home: what they tell, and that each step keeps them right.
use Rattle.std.proofs.Common.{◌≡◌, ◌≢◌, ℕ, ◌≤◌, false, List, [], ◌∷◌, ◌++◌, Option, sym, refl, ap, ◌∙◌, subst, arith}
use Rattle.tl_types.specs.Permission.{rank, prune_from, prune_to, probe_perm, grant_perm}
use Rattle.tl_types.specs.Message.{probe_answer, surrender, upward_to, upward_bytes}
use Rattle.tl_types.specs.Bodies.{upward_from}
use Rattle.tl_types.specs.declared.permission.Perm.{Perm}
use Rattle.tl_types.specs.declared.permission.Perm.TheVariants.{None as p_None, Tip}
use Rattle.tl_types.specs.declared.permission.Prune.{Prune}
use Rattle.tl_types.specs.declared.permission.ProbeCap.{ProbeCap}
use Rattle.tl_types.specs.declared.permission.GrantCap.{GrantCap}
use Rattle.tl_types.specs.declared.wait.Awaited.{Awaited}
use Rattle.tl_types.specs.declared.wait.Awaited.TheVariants.{Nothing, ForGrant, ForReleaseAck}
use Rattle.tl_types.specs.declared.message.ProbeAnswer.{ProbeAnswer}
use Rattle.tl_types.specs.declared.message.Surrender.{Surrender}
use Rattle.tl_types.specs.declared.message.Upward.{Upward}
use Rattle.tl_types.specs.declared.message.Upward.TheVariants.{ProbeAck, Release}
use Rattle.tl_types.specs.declared.message.Downward.{Downward}
use Rattle.tl_types.specs.declared.message.Downward.TheVariants.{Grant, ReleaseAck}
use Rattle.tl_protocol.specs.declared.copy.CachedCopy.{CachedCopy}
use Rattle.tl_protocol.specs.Copy.{perm_of, dirty_bytes, reduced}
use Rattle.tl_protocol.proofs.Invariant.{has_probe_ack, has_grant, IsCurrent, IsData, Leads, IsSent, Heard, Talk, IsAtMostOne}
use Rattle.tl_protocol.proofs.Messages.{grant_not_none, to_not_tip, to_le, not_dirty, prune_leads, answer_leads, clean_release, none_data, sent_not_tip, sent_le}

-- a client that waits for nothing may wait for a Grant: the messages on C stay right
pub acquire_heard :
    (now : List ℕ) (held : CachedCopy) (wait : Awaited) (recorded : Perm) (b : List ProbeCap) (c : List Upward)
    → wait ≡ Nothing → Heard now held wait recorded b c → Heard now held ForGrant recorded b c
acquire_heard now held wait recorded b [] waits talk = ((λ e. cc), talk.1)
acquire_heard now held wait recorded b (ProbeAck answer ∷ []) waits talk = ((λ e. cc), talk.1, talk.2)
acquire_heard now held wait recorded b (Release given ∷ []) waits talk = cc
acquire_heard now held wait recorded b (ProbeAck answer ∷ Release given ∷ []) waits talk = cc
acquire_heard now held wait recorded b (message ∷ rest) waits talk = absurd talk

-- and so do those on C and D
pub acquire_talk :
    (now : List ℕ) (held : CachedCopy) (wait : Awaited) (recorded : Perm) (b : List ProbeCap) (c : List Upward) (d : List Downward)
    → wait ≡ Nothing → Talk now held wait recorded b c d → Talk now held ForGrant recorded b c d
acquire_talk now held wait recorded b c [] waits talk = acquire_heard now held wait recorded b c waits talk
acquire_talk now held wait recorded b c (Grant cap bytes ∷ []) waits talk = cc
acquire_talk now held wait recorded b c (ReleaseAck ∷ []) waits talk = cc
acquire_talk now held wait recorded b c (first ∷ second ∷ rest) waits talk = absurd talk

-- a Release joins the messages on C, which then lead to the reduced copy
pub release_heard :
    (now : List ℕ) (held : CachedCopy) (wait : Awaited) (recorded : Perm) (b : List ProbeCap) (c : List Upward) (prune : Prune)
    → IsCurrent now held → wait ≡ Nothing → perm_of held ≡ prune_from prune → Heard now held wait recorded b c
    → Heard now (reduced held (prune_to prune)) ForReleaseAck recorded b (c ++ Release (surrender prune (dirty_bytes held)) ∷ [])
release_heard now held wait recorded b [] prune current waits e talk = (
  refl,
  subst (λ (r : Perm). Leads now r (Release (surrender prune (dirty_bytes held))) (perm_of (reduced held (prune_to prune)))) (sym talk.1)
      (prune_leads now held prune current e),
)
release_heard now held wait recorded b (ProbeAck answer ∷ []) prune current waits e talk =
    let leads : Leads now recorded (ProbeAck answer) (perm_of held) = talk.2 in
    let below : perm_of held ≢ Tip = λ q. to_not_tip (ProbeAck answer) (leads.1 ∙ q) in
    let gives = prune_leads now held prune current e in
    (refl, talk.1, (leads.0, leads.1 ∙ gives.0, leads.2), gives.1, clean_release prune (dirty_bytes held) (not_dirty held below))
release_heard now held wait recorded b (Release given ∷ []) prune current waits e talk = cc
release_heard now held wait recorded b (ProbeAck answer ∷ Release given ∷ []) prune current waits e talk = cc
release_heard now held wait recorded b (message ∷ rest) prune current waits e talk = absurd talk

-- and so they do with what is on D
pub release_talk :
    (now : List ℕ) (held : CachedCopy) (wait : Awaited) (recorded : Perm) (b : List ProbeCap) (c : List Upward) (d : List Downward)
    (prune : Prune)
    → IsCurrent now held → wait ≡ Nothing → perm_of held ≡ prune_from prune → Talk now held wait recorded b c d
    → Talk now (reduced held (prune_to prune)) ForReleaseAck recorded b (c ++ Release (surrender prune (dirty_bytes held)) ∷ []) d
release_talk now held wait recorded b c [] prune current waits e talk =
    release_heard now held wait recorded b c prune current waits e talk
release_talk now held wait recorded b c (Grant cap bytes ∷ []) prune current waits e talk = cc
release_talk now held wait recorded b c (ReleaseAck ∷ []) prune current waits e talk = cc
release_talk now held wait recorded b c (first ∷ second ∷ rest) prune current waits e talk = absurd talk

-- an answer to a Probe joins the messages on C, which then lead to the reduced copy
pub answer_heard :
    (now : List ℕ) (held : CachedCopy) (wait : Awaited) (recorded : Perm) (cap : ProbeCap) (rest : List ProbeCap) (c : List Upward)
    → IsAtMostOne (cap ∷ rest) → IsCurrent now held → wait ≢ ForReleaseAck → Heard now held wait recorded (cap ∷ rest) c
    → Heard now (reduced held (probe_perm cap)) wait recorded rest
    (c ++ ProbeAck (probe_answer (perm_of held) cap (dirty_bytes held)) ∷ [])
answer_heard now held wait recorded cap [] [] one current n talk = (
  n,
  refl,
  subst (λ (r : Perm). Leads now r (ProbeAck (probe_answer (perm_of held) cap (dirty_bytes held)))
      (perm_of (reduced held (probe_perm cap)))) (sym talk.1) (answer_leads now held cap current),
)
answer_heard now held wait recorded cap (more ∷ rest) [] one current n talk = absurd one
answer_heard now held wait recorded cap rest (ProbeAck answer ∷ []) one current n talk = cc
answer_heard now held wait recorded cap rest (Release given ∷ []) one current n talk = absurd (n talk.0)
answer_heard now held wait recorded cap rest (ProbeAck answer ∷ Release given ∷ []) one current n talk = absurd (n talk.0)
answer_heard now held wait recorded cap rest (message ∷ tail) one current n talk = absurd talk

-- and so they do with what is on D
pub answer_talk :
    (now : List ℕ) (held : CachedCopy) (wait : Awaited) (recorded : Perm) (cap : ProbeCap) (rest : List ProbeCap) (c : List Upward)
    (d : List Downward)
    → IsAtMostOne (cap ∷ rest) → IsCurrent now held → wait ≢ ForReleaseAck → Talk now held wait recorded (cap ∷ rest) c d
    → Talk now (reduced held (probe_perm cap)) wait recorded rest
    (c ++ ProbeAck (probe_answer (perm_of held) cap (dirty_bytes held)) ∷ []) d
answer_talk now held wait recorded cap rest c [] one current n talk =
    answer_heard now held wait recorded cap rest c one current n talk
answer_talk now held wait recorded cap rest c (Grant grant bytes ∷ []) one current n talk = cc
answer_talk now held wait recorded cap rest c (ReleaseAck ∷ []) one current n talk = absurd (n talk.1)
answer_talk now held wait recorded cap rest c (first ∷ second ∷ tail) one current n talk = absurd talk

-- what a Grant that is first on D tells
pub granted_talk :
    (now : List ℕ) (held : CachedCopy) (wait : Awaited) (recorded : Perm) (b : List ProbeCap) (c : List Upward) (cap : GrantCap)
    (bytes : Option (List ℕ)) (rest : List Downward)
    → Talk now held wait recorded b c (Grant cap bytes ∷ rest)
    → (c ≡ []) × (wait ≡ ForGrant) × (b ≡ []) × (recorded ≡ grant_perm cap) × IsSent bytes now held × (rest ≡ [])
granted_talk now held wait recorded b c cap bytes [] talk = (talk.0, talk.1, talk.2, talk.3, talk.4, refl)
granted_talk now held wait recorded b c cap bytes (y ∷ rest) talk = absurd talk

-- what a ReleaseAck that is first on D tells
pub acked_talk :
    (now : List ℕ) (held : CachedCopy) (wait : Awaited) (recorded : Perm) (b : List ProbeCap) (c : List Upward) (rest : List Downward)
    → Talk now held wait recorded b c (ReleaseAck ∷ rest)
    → (c ≡ []) × (wait ≡ ForReleaseAck) × (recorded ≡ perm_of held) × (rest ≡ [])
acked_talk now held wait recorded b c [] talk = (talk.0, talk.1, talk.2, refl)
acked_talk now held wait recorded b c (y ∷ rest) talk = absurd talk

-- where no answer to a Probe is on C, a Probe may join B
pub probe_heard :
    (now : List ℕ) (held : CachedCopy) (wait : Awaited) (recorded : Perm) (b more : List ProbeCap) (c : List Upward)
    → has_probe_ack c ≡ false → Heard now held wait recorded b c → Heard now held wait recorded more c
probe_heard now held wait recorded b more [] n talk = talk
probe_heard now held wait recorded b more (ProbeAck answer ∷ []) n talk = cc
probe_heard now held wait recorded b more (Release given ∷ []) n talk = talk
probe_heard now held wait recorded b more (ProbeAck answer ∷ Release given ∷ []) n talk = cc
probe_heard now held wait recorded b more (message ∷ rest) n talk = absurd talk

-- and so it may where no Grant is on D
pub probe_talk :
    (now : List ℕ) (held : CachedCopy) (wait : Awaited) (recorded : Perm) (b more : List ProbeCap) (c : List Upward) (d : List Downward)
    → has_probe_ack c ≡ false → has_grant d ≡ false → Talk now held wait recorded b c d → Talk now held wait recorded more c d
probe_talk now held wait recorded b more c [] n g talk = probe_heard now held wait recorded b more c n talk
probe_talk now held wait recorded b more c (Grant cap bytes ∷ []) n g talk = cc
probe_talk now held wait recorded b more c (ReleaseAck ∷ []) n g talk = talk
probe_talk now held wait recorded b more c (first ∷ second ∷ rest) n g talk = absurd talk

-- The first message from a client leads from what home records.
pub first_heard :
    (now : List ℕ) (held : CachedCopy) (wait : Awaited) (recorded : Perm) (b : List ProbeCap) (message : Upward) (rest : List Upward)
    → Heard now held wait recorded b (message ∷ rest)
    → (recorded ≡ upward_from message) × IsData now (upward_bytes message) recorded
first_heard now held wait recorded b (ProbeAck answer) [] talk = (talk.2.0, talk.2.2)
first_heard now held wait recorded b (Release given) [] talk = (talk.1.0, talk.1.2)
first_heard now held wait recorded b (ProbeAck answer) (Release given ∷ []) talk = (talk.2.0, talk.2.2)
first_heard now held wait recorded b message rest talk = absurd talk

-- then nothing is on D
pub first_talk :
    (now : List ℕ) (held : CachedCopy) (wait : Awaited) (recorded : Perm) (b : List ProbeCap) (message : Upward) (rest : List Upward)
    (d : List Downward)
    → Talk now held wait recorded b (message ∷ rest) d
    → (recorded ≡ upward_from message) × IsData now (upward_bytes message) recorded × (d ≡ [])
first_talk now held wait recorded b message rest [] talk =
    let leads = first_heard now held wait recorded b message rest talk in (leads.0, leads.1, refl)
first_talk now held wait recorded b message rest (Grant cap bytes ∷ []) talk = cc
first_talk now held wait recorded b message rest (ReleaseAck ∷ []) talk = cc
first_talk now held wait recorded b message rest (first ∷ second ∷ more) talk = absurd talk

-- home takes an answer to a Probe: the other messages lead from what it leaves
pub take_ack_heard :
    (now : List ℕ) (held : CachedCopy) (wait : Awaited) (recorded : Perm) (b : List ProbeCap) (answer : ProbeAnswer)
    (rest : List Upward)
    → Heard now held wait recorded b (ProbeAck answer ∷ rest) → Heard now held wait (upward_to (ProbeAck answer)) b rest
take_ack_heard now held wait recorded b answer [] talk = (talk.0, talk.2.1)
take_ack_heard now held wait recorded b answer (Release given ∷ []) talk =
    (talk.0, (talk.2.1, talk.3, subst (λ (o : Option (List ℕ)). IsData now o (upward_to (ProbeAck answer))) (sym talk.4) tt))
take_ack_heard now held wait recorded b answer rest talk = absurd talk

-- and nothing is on D
pub take_ack_talk :
    (now : List ℕ) (held : CachedCopy) (wait : Awaited) (recorded : Perm) (b : List ProbeCap) (answer : ProbeAnswer)
    (rest : List Upward) (d : List Downward)
    → Talk now held wait recorded b (ProbeAck answer ∷ rest) d → Talk now held wait (upward_to (ProbeAck answer)) b rest d
take_ack_talk now held wait recorded b answer rest [] talk = take_ack_heard now held wait recorded b answer rest talk
take_ack_talk now held wait recorded b answer rest (Grant cap more ∷ []) talk = cc
take_ack_talk now held wait recorded b answer rest (ReleaseAck ∷ []) talk = cc
take_ack_talk now held wait recorded b answer rest (first ∷ second ∷ more) talk = absurd talk

-- a Release is the last message on C
pub take_release_heard :
    (now : List ℕ) (held : CachedCopy) (wait : Awaited) (recorded : Perm) (b : List ProbeCap) (given : Surrender)
    (rest : List Upward)
    → Heard now held wait recorded b (Release given ∷ rest)
    → (rest ≡ []) × (wait ≡ ForReleaseAck) × (upward_to (Release given) ≡ perm_of held)
take_release_heard now held wait recorded b given [] talk = (refl, talk.0, talk.1.1)
take_release_heard now held wait recorded b given (message ∷ rest) talk = absurd talk

-- home takes a Release, and answers it
pub take_release_talk :
    (now : List ℕ) (held : CachedCopy) (wait : Awaited) (recorded : Perm) (b : List ProbeCap) (given : Surrender)
    (rest : List Upward) (d : List Downward)
    → Talk now held wait recorded b (Release given ∷ rest) d
    → Talk now held wait (upward_to (Release given)) b rest (d ++ ReleaseAck ∷ [])
take_release_talk now held wait recorded b given rest [] talk =
    take_release_heard now held wait recorded b given rest talk
take_release_talk now held wait recorded b given rest (Grant cap more ∷ []) talk = cc
take_release_talk now held wait recorded b given rest (ReleaseAck ∷ []) talk = cc
take_release_talk now held wait recorded b given rest (first ∷ second ∷ more) talk = absurd talk

-- A client that waits for a Grant has nothing under way, where no Probe and no Grant is pending at it.
pub idle_heard :
    (now : List ℕ) (held : CachedCopy) (wait : Awaited) (recorded : Perm) (b : List ProbeCap) (c : List Upward)
    → wait ≡ ForGrant → has_probe_ack c ≡ false → Heard now held wait recorded b c → (c ≡ []) × (recorded ≡ perm_of held)
idle_heard now held wait recorded b [] waits n talk = (refl, talk.1)
idle_heard now held wait recorded b (ProbeAck answer ∷ []) waits n talk = cc
idle_heard now held wait recorded b (Release given ∷ []) waits n talk = cc
idle_heard now held wait recorded b (ProbeAck answer ∷ Release given ∷ []) waits n talk = cc
idle_heard now held wait recorded b (message ∷ rest) waits n talk = absurd talk

-- and nothing is on D either
pub idle_talk :
    (now : List ℕ) (held : CachedCopy) (wait : Awaited) (recorded : Perm) (b : List ProbeCap) (c : List Upward) (d : List Downward)
    → wait ≡ ForGrant → has_probe_ack c ≡ false → has_grant d ≡ false → Talk now held wait recorded b c d
    → (c ≡ []) × (d ≡ []) × (recorded ≡ perm_of held)
idle_talk now held wait recorded b c [] waits n g talk =
    let idle = idle_heard now held wait recorded b c waits n talk in (idle.0, refl, idle.1)
idle_talk now held wait recorded b c (Grant cap bytes ∷ []) waits n g talk = cc
idle_talk now held wait recorded b c (ReleaseAck ∷ []) waits n g talk = cc
idle_talk now held wait recorded b c (first ∷ second ∷ rest) waits n g talk = absurd talk

-- A client with Tip has no message on C, and home records Tip.
pub tip_heard :
    (now : List ℕ) (held : CachedCopy) (wait : Awaited) (recorded : Perm) (b : List ProbeCap) (c : List Upward)
    → perm_of held ≡ Tip → Heard now held wait recorded b c → (c ≡ []) × (recorded ≡ Tip)
tip_heard now held wait recorded b [] e talk = (refl, talk.1 ∙ e)
tip_heard now held wait recorded b (ProbeAck answer ∷ []) e talk = absurd (to_not_tip (ProbeAck answer) (talk.2.1 ∙ e))
tip_heard now held wait recorded b (Release given ∷ []) e talk = absurd (to_not_tip (Release given) (talk.1.1 ∙ e))
tip_heard now held wait recorded b (ProbeAck answer ∷ Release given ∷ []) e talk =
    absurd (to_not_tip (Release given) (talk.3 ∙ e))
tip_heard now held wait recorded b (message ∷ rest) e talk = absurd talk

-- whatever is on D
pub tip_talk :
    (now : List ℕ) (held : CachedCopy) (wait : Awaited) (recorded : Perm) (b : List ProbeCap) (c : List Upward) (d : List Downward)
    → perm_of held ≡ Tip → Talk now held wait recorded b c d → (c ≡ []) × (recorded ≡ Tip)
tip_talk now held wait recorded b c [] e talk = tip_heard now held wait recorded b c e talk
tip_talk now held wait recorded b c (Grant cap bytes ∷ []) e talk = absurd (sent_not_tip now held bytes talk.4 e)
tip_talk now held wait recorded b c (ReleaseAck ∷ []) e talk = (talk.0, talk.2 ∙ e)
tip_talk now held wait recorded b c (first ∷ second ∷ rest) e talk = absurd talk

-- The messages stay right where another copy of the same permission stands for the copy, with other bytes last stored.
pub store_heard :
    (now later : List ℕ) (held copy : CachedCopy) (wait : Awaited) (recorded : Perm) (b : List ProbeCap) (c : List Upward)
    → perm_of held ≡ Tip → perm_of copy ≡ Tip → Heard now held wait recorded b c → Heard later copy wait recorded b c
store_heard now later held copy wait recorded b [] e f talk = (talk.0, talk.1 ∙ (e ∙ sym f))
store_heard now later held copy wait recorded b (message ∷ rest) e f talk =
    let tip = tip_heard now held wait recorded b (message ∷ rest) e talk in cc

-- and so they do with what is on D
pub store_talk :
    (now later : List ℕ) (held copy : CachedCopy) (wait : Awaited) (recorded : Perm) (b : List ProbeCap) (c : List Upward)
    (d : List Downward)
    → perm_of held ≡ Tip → perm_of copy ≡ Tip → Talk now held wait recorded b c d → Talk later copy wait recorded b c d
store_talk now later held copy wait recorded b c [] e f talk = store_heard now later held copy wait recorded b c e f talk
store_talk now later held copy wait recorded b c (Grant cap bytes ∷ []) e f talk = absurd (sent_not_tip now held bytes talk.4 e)
store_talk now later held copy wait recorded b c (ReleaseAck ∷ []) e f talk = (talk.0, talk.1, talk.2 ∙ (e ∙ sym f))
store_talk now later held copy wait recorded b c (first ∷ second ∷ rest) e f talk = absurd talk

-- Messages of a client that home records None say nothing of the bytes last stored.
pub none_heard :
    (now later : List ℕ) (held : CachedCopy) (wait : Awaited) (recorded : Perm) (b : List ProbeCap) (c : List Upward)
    → recorded ≡ p_None → Heard now held wait recorded b c → Heard later held wait recorded b c
none_heard now later held wait recorded b [] e talk = talk
none_heard now later held wait recorded b (ProbeAck answer ∷ []) e talk =
    (talk.0, talk.1, (talk.2.0, talk.2.1, none_data now later (upward_bytes (ProbeAck answer)) recorded e talk.2.2))
none_heard now later held wait recorded b (Release given ∷ []) e talk =
    (talk.0, (talk.1.0, talk.1.1, none_data now later (upward_bytes (Release given)) recorded e talk.1.2))
none_heard now later held wait recorded b (ProbeAck answer ∷ Release given ∷ []) e talk =
    (talk.0, talk.1, (talk.2.0, talk.2.1, none_data now later (upward_bytes (ProbeAck answer)) recorded e talk.2.2), talk.3, talk.4)
none_heard now later held wait recorded b (message ∷ rest) e talk = absurd talk

-- and so it is with what is on D
pub none_talk :
    (now later : List ℕ) (held : CachedCopy) (wait : Awaited) (recorded : Perm) (b : List ProbeCap) (c : List Upward)
    (d : List Downward)
    → recorded ≡ p_None → Talk now held wait recorded b c d → Talk later held wait recorded b c d
none_talk now later held wait recorded b c [] e talk = none_heard now later held wait recorded b c e talk
none_talk now later held wait recorded b c (Grant cap bytes ∷ []) e talk = absurd (grant_not_none cap (sym talk.3 ∙ e))
none_talk now later held wait recorded b c (ReleaseAck ∷ []) e talk = talk
none_talk now later held wait recorded b c (first ∷ second ∷ rest) e talk = absurd talk

-- A copy is at most what home records.
pub held_heard :
    (now : List ℕ) (held : CachedCopy) (wait : Awaited) (recorded : Perm) (b : List ProbeCap) (c : List Upward)
    → Heard now held wait recorded b c → rank (perm_of held) ≤ rank recorded
held_heard now held wait recorded b [] talk = omega (arith, ap rank talk.1)
held_heard now held wait recorded b (ProbeAck answer ∷ []) talk =
    omega (arith, ap rank talk.2.0, ap rank talk.2.1, to_le (ProbeAck answer))
held_heard now held wait recorded b (Release given ∷ []) talk =
    omega (arith, ap rank talk.1.0, ap rank talk.1.1, to_le (Release given))
held_heard now held wait recorded b (ProbeAck answer ∷ Release given ∷ []) talk =
    omega (arith, ap rank talk.2.0, ap rank talk.2.1, ap rank talk.3, to_le (ProbeAck answer), to_le (Release given))
held_heard now held wait recorded b (message ∷ rest) talk = absurd talk

-- whatever is on D
pub held_talk :
    (now : List ℕ) (held : CachedCopy) (wait : Awaited) (recorded : Perm) (b : List ProbeCap) (c : List Upward) (d : List Downward)
    → Talk now held wait recorded b c d → rank (perm_of held) ≤ rank recorded
held_talk now held wait recorded b c [] talk = held_heard now held wait recorded b c talk
held_talk now held wait recorded b c (Grant cap bytes ∷ []) talk =
    omega (arith, ap rank talk.3, sent_le now held bytes cap talk.4)
held_talk now held wait recorded b c (ReleaseAck ∷ []) talk = omega (arith, ap rank talk.2)
held_talk now held wait recorded b c (first ∷ second ∷ rest) talk = absurd talk
