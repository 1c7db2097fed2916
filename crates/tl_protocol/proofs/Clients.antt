-- What each step of a client, of home towards it and of a message between them leaves of what holds of one client.
use Rattle.std.proofs.Common.{◌≡◌, ◌≢◌, ℕ, ◌-◌, ◌≤◌, true, false, List, [], ◌∷◌, ◌++◌, drop, Option, inl, inr, ⊎_elim, sym, refl, ap, ◌∙◌, subst, arith}
use Rattle.tl_types.specs.Permission.{rank, grow_from, prune_from, prune_to, probe_perm, grant_perm}
use Rattle.tl_types.specs.Message.{probe_answer, surrender, upward_to, upward_bytes}
use Rattle.tl_types.specs.Bodies.{upward_from}
use Rattle.tl_types.specs.declared.permission.Perm.{Perm}
use Rattle.tl_types.specs.declared.permission.Perm.TheVariants.{None as p_None, Tip}
use Rattle.tl_types.specs.declared.permission.Grow.{Grow}
use Rattle.tl_types.specs.declared.permission.Prune.{Prune}
use Rattle.tl_types.specs.declared.permission.ProbeCap.{ProbeCap}
use Rattle.tl_types.specs.declared.permission.GrantCap.{GrantCap}
use Rattle.tl_types.specs.declared.wait.Awaited.{Awaited}
use Rattle.tl_types.specs.declared.wait.Awaited.TheVariants.{Nothing, ForGrant, ForReleaseAck}
use Rattle.tl_types.specs.declared.message.ProbeAnswer.{ProbeAnswer}
use Rattle.tl_types.specs.declared.message.Surrender.{Surrender}
use Rattle.tl_types.specs.declared.message.Upward.{Upward}
use Rattle.tl_types.specs.declared.message.Upward.TheVariants.{ProbeAck, Release}
use Rattle.tl_types.specs.declared.message.Downward.{Downward}
use Rattle.tl_types.specs.declared.message.Downward.TheVariants.{Grant, ReleaseAck}
use Rattle.tl_protocol.specs.declared.copy.CachedCopy.{CachedCopy}
use Rattle.tl_protocol.specs.declared.copy.CachedCopy.TheVariants.{Absent, Readable, Writable}
use Rattle.tl_protocol.specs.declared.client.Client.{Client}
use Rattle.tl_protocol.specs.Client.{fresh_client, NoProbePending, NoGrantPending, released, answered, bytes_or, took_grant, grant_bytes, sent_grant}
use Rattle.tl_protocol.specs.Copy.{perm_of, bytes_of, dirty_bytes, clean_copy}
use Rattle.tl_protocol.proofs.Invariant.{has_grant, IsCurrent, IsData, IsSent, Talk, Asks, IsAtMostOne, ClientIs, IsThere, HasData, IsDirty}
use Rattle.tl_protocol.proofs.Messages.{grow_not_tip, dirty_copy_tip, reduced_current, reduced_not_tip, clean_current, clean_perm, dirty_release, dirty_answer, data_tip, is_sent, sent_not_tip, sent_current}
use Rattle.tl_protocol.proofs.Talk.{acquire_talk, release_talk, answer_talk, granted_talk, acked_talk, probe_talk, first_talk, take_ack_talk, take_release_talk, idle_talk, tip_talk, store_talk, none_talk, held_talk}

-- ## At most one message on A and on B

-- an Acquire is on A only while the client waits for a Grant
pub no_asks : (a : List Grow) (wait : Awaited) → wait ≢ ForGrant → Asks a wait → a ≡ []
no_asks [] wait n t = refl
no_asks (grow ∷ []) wait n t = absurd (n t)
no_asks (first ∷ second ∷ rest) wait n t = absurd t

-- with nothing on A the client may wait for anything
pub none_asks : (a : List Grow) (wait : Awaited) → a ≡ [] → Asks a wait
none_asks [] wait e = tt
none_asks (x ∷ rest) wait e = cc

-- an Acquire joins an empty A
pub one_asks : (a : List Grow) (grow : Grow) → a ≡ [] → Asks (a ++ grow ∷ []) ForGrant
one_asks [] grow e = refl
one_asks (x ∷ rest) grow e = cc

-- an Acquire is alone on A, and its client waits for a Grant
pub taken_asks : (grow : Grow) (rest : List Grow) (wait : Awaited) → Asks (grow ∷ rest) wait → (rest ≡ []) × (wait ≡ ForGrant)
taken_asks grow [] wait t = (refl, t)
taken_asks grow (x ∷ rest) wait t = absurd t

-- a Probe joins an empty B
pub one_probe_more : (b : List ProbeCap) (cap : ProbeCap) → b ≡ [] → IsAtMostOne (b ++ cap ∷ [])
one_probe_more [] cap e = tt
one_probe_more (x ∷ rest) cap e = cc

-- a Probe is alone on B
pub rest_of_one : (cap : ProbeCap) (rest : List ProbeCap) → IsAtMostOne (cap ∷ rest) → rest ≡ []
rest_of_one cap [] one = refl
rest_of_one cap (x ∷ rest) one = absurd one

-- an empty B has at most one Probe
pub none_at_most : (b : List ProbeCap) → b ≡ [] → IsAtMostOne b
none_at_most [] e = tt
none_at_most (x ∷ rest) e = cc

-- ## What each step leaves

-- a client that holds nothing and has heard of nothing
pub fresh : (now : List ℕ) → ClientIs now fresh_client
fresh now = record {
  current = tt;
  talk = ((λ e. cc), refl);
  asks = tt;
  one_probe = tt;
  no_tip = λ e. cc;
  few = omega arith;
  apart = λ e. cc;
}

-- the client sends an Acquire
pub acquired_ok :
    (now : List ℕ) (k : Client) (grow : Grow) → k.wait ≡ Nothing → perm_of k.held ≡ grow_from grow → ClientIs now k
    → ClientIs now (record k { a = k.a ++ grow ∷ []; wait = ForGrant })
acquired_ok now k grow waits e holds = record {
  current = holds.current;
  talk = acquire_talk now k.held k.wait k.recorded k.b k.c k.d waits holds.talk;
  asks = one_asks k.a grow (no_asks k.a k.wait (λ q. cc) holds.asks);
  one_probe = holds.one_probe;
  no_tip = λ q t. grow_not_tip grow (sym e ∙ t);
  few = holds.few;
  apart = holds.apart;
}

-- the client sends a Release
pub released_ok :
    (now : List ℕ) (k : Client) (prune : Prune) → k.wait ≡ Nothing → perm_of k.held ≡ prune_from prune → ClientIs now k
    → ClientIs now (released k prune)
released_ok now k prune waits e holds = record {
  current = reduced_current now k.held (prune_to prune) holds.current;
  talk = release_talk now k.held k.wait k.recorded k.b k.c k.d prune holds.current waits e holds.talk;
  asks = none_asks k.a ForReleaseAck (no_asks k.a k.wait (λ q. cc) holds.asks);
  one_probe = holds.one_probe;
  no_tip = λ q. cc;
  few = holds.few;
  apart = holds.apart;
}

-- the client answers its first Probe
pub answered_ok :
    (now : List ℕ) (k : Client) (b : List ProbeCap) → b ≡ k.b → k.wait ≢ ForReleaseAck → ClientIs now k
    → ClientIs now (answered k b)
answered_ok now k [] e n holds = holds
answered_ok now k (cap ∷ rest) e n holds =
    let one : IsAtMostOne (cap ∷ rest) = subst (λ (b : List ProbeCap). IsAtMostOne b) (sym e) holds.one_probe in
    let talk : Talk now k.held k.wait k.recorded (cap ∷ rest) k.c k.d =
    subst (λ (b : List ProbeCap). Talk now k.held k.wait k.recorded b k.c k.d) (sym e) holds.talk in
    record {
      current = reduced_current now k.held (probe_perm cap) holds.current;
      talk = answer_talk now k.held k.wait k.recorded cap rest k.c k.d one holds.current n talk;
      asks = holds.asks;
      one_probe = none_at_most rest (rest_of_one cap rest one);
      no_tip = λ q. reduced_not_tip k.held cap;
      few = holds.few;
      apart = holds.apart;
    }

-- the client takes a Grant, where it has no other Acquire on A
pub took_grant_ok :
    (now : List ℕ) (k : Client) (d : List Downward) → d ≡ k.d → (has_grant k.d ≡ true → k.a ≡ []) → ClientIs now k
    → ClientIs now (took_grant k d)
took_grant_ok now k [] e quiet holds = holds
took_grant_ok now k (ReleaseAck ∷ rest) e quiet holds = holds
took_grant_ok now k (Grant cap bytes ∷ rest) e quiet holds =
    let talk : Talk now k.held k.wait k.recorded k.b k.c (Grant cap bytes ∷ rest) =
    subst (λ (d : List Downward). Talk now k.held k.wait k.recorded k.b k.c d) (sym e) holds.talk in
    let known = granted_talk now k.held k.wait k.recorded k.b k.c cap bytes rest talk in
    let own : List ℕ = bytes_or bytes (bytes_of k.held) in
    let none : k.e ≡ 0 = holds.apart (ap has_grant (sym e)) in
    record {
      current = clean_current now (grant_perm cap) own (sent_current now k.held bytes known.4);
      talk = subst (λ (c : List Upward). Talk now (clean_copy (grant_perm cap) own) Nothing k.recorded k.b c rest) (sym known.0)
          (subst (λ (d : List Downward). Talk now (clean_copy (grant_perm cap) own) Nothing k.recorded k.b [] d) (sym known.5)
          ((λ (q : Nothing ≡ ForReleaseAck). cc), known.3 ∙ sym (clean_perm (grant_perm cap) own)));
      asks = none_asks k.a Nothing (quiet (ap has_grant (sym e)));
      one_probe = holds.one_probe;
      no_tip = λ q. cc;
      few = omega arith;
      apart = λ q. let never : false ≡ true = ap has_grant (sym known.5) ∙ q in cc;
    }

-- the client takes a ReleaseAck
pub took_release_ack_ok :
    (now : List ℕ) (k : Client) (rest : List Downward) → k.d ≡ ReleaseAck ∷ rest → ClientIs now k
    → ClientIs now (record k { wait = Nothing; d = drop 1 k.d })
took_release_ack_ok now k rest e holds =
    let talk : Talk now k.held k.wait k.recorded k.b k.c (ReleaseAck ∷ rest) =
    subst (λ (d : List Downward). Talk now k.held k.wait k.recorded k.b k.c d) e holds.talk in
    let known = acked_talk now k.held k.wait k.recorded k.b k.c rest talk in
    let none : drop 1 k.d ≡ [] = ap (drop 1) e ∙ known.3 in
    record {
      current = holds.current;
      talk = subst (λ (c : List Upward). Talk now k.held Nothing k.recorded k.b c (drop 1 k.d)) (sym known.0)
          (subst (λ (d : List Downward). Talk now k.held Nothing k.recorded k.b [] d) (sym none)
          ((λ (q : Nothing ≡ ForReleaseAck). cc), known.2));
      asks = none_asks k.a Nothing (no_asks k.a k.wait (λ q. cc (known.1)) holds.asks);
      one_probe = holds.one_probe;
      no_tip = λ q. cc;
      few = holds.few;
      apart = λ q. let never : false ≡ true = ap has_grant (sym none) ∙ q in cc;
    }

-- home takes an Acquire
pub accepted_ok :
    (now : List ℕ) (k : Client) (grow : Grow) (rest : List Grow) → grow ∷ rest ≡ k.a → ClientIs now k
    → ClientIs now (record k { a = rest }) × (rest ≡ []) × (k.wait ≡ ForGrant)
accepted_ok now k grow rest e holds =
    let known = taken_asks grow rest k.wait (subst (λ (a : List Grow). Asks a k.wait) (sym e) holds.asks) in (
      record {
        current = holds.current;
        talk = holds.talk;
        asks = none_asks rest k.wait known.0;
        one_probe = holds.one_probe;
        no_tip = holds.no_tip;
        few = holds.few;
        apart = holds.apart;
      },
      known.0,
      known.1,
    )

-- home sends a Probe
pub probed_ok :
    (now : List ℕ) (k : Client) (cap : ProbeCap) → NoProbePending k → NoGrantPending k → ClientIs now k
    → ClientIs now (record k { b = k.b ++ cap ∷ [] })
probed_ok now k cap probe grant holds = record {
  current = holds.current;
  talk = probe_talk now k.held k.wait k.recorded k.b (k.b ++ cap ∷ []) k.c k.d probe.1 grant.0 holds.talk;
  asks = holds.asks;
  one_probe = one_probe_more k.b cap probe.0;
  no_tip = holds.no_tip;
  few = holds.few;
  apart = holds.apart;
}

-- home takes a ProbeAck
pub took_probe_ack_ok :
    (now : List ℕ) (k : Client) (answer : ProbeAnswer) (rest : List Upward)
    → ProbeAck answer ∷ rest ≡ k.c → ClientIs now k
    → ClientIs now (record k { recorded = upward_to (ProbeAck answer); c = rest })
took_probe_ack_ok now k answer rest e holds =
    let talk : Talk now k.held k.wait k.recorded k.b (ProbeAck answer ∷ rest) k.d =
    subst (λ (c : List Upward). Talk now k.held k.wait k.recorded k.b c k.d) (sym e) holds.talk in
    record {
      current = holds.current;
      talk = take_ack_talk now k.held k.wait k.recorded k.b answer rest k.d talk;
      asks = holds.asks;
      one_probe = holds.one_probe;
      no_tip = holds.no_tip;
      few = holds.few;
      apart = holds.apart;
    }

-- a ReleaseAck is no Grant
pub no_grant_after : (d : List Downward) → d ≡ [] → has_grant (d ++ ReleaseAck ∷ []) ≡ false
no_grant_after [] e = refl
no_grant_after (x ∷ rest) e = cc

-- home takes a Release
pub took_release_ok :
    (now : List ℕ) (k : Client) (given : Surrender) (rest : List Upward)
    → Release given ∷ rest ≡ k.c → ClientIs now k
    → ClientIs now (record k { recorded = upward_to (Release given); c = rest; d = k.d ++ ReleaseAck ∷ [] })
took_release_ok now k given rest e holds =
    let talk : Talk now k.held k.wait k.recorded k.b (Release given ∷ rest) k.d =
    subst (λ (c : List Upward). Talk now k.held k.wait k.recorded k.b c k.d) (sym e) holds.talk in
    let first = first_talk now k.held k.wait k.recorded k.b (Release given) rest k.d talk in
    record {
      current = holds.current;
      talk = take_release_talk now k.held k.wait k.recorded k.b given rest k.d talk;
      asks = holds.asks;
      one_probe = holds.one_probe;
      no_tip = holds.no_tip;
      few = holds.few;
      apart = λ q. let never : false ≡ true = sym (no_grant_after k.d first.2) ∙ q in cc;
    }

-- what a first message on C tells
pub first_is :
    (now : List ℕ) (k : Client) (message : Upward) (rest : List Upward) → message ∷ rest ≡ k.c → ClientIs now k
    → (k.recorded ≡ upward_from message) × IsData now (upward_bytes message) k.recorded × (k.d ≡ [])
first_is now k message rest e holds =
    first_talk now k.held k.wait k.recorded k.b message rest k.d
    (subst (λ (c : List Upward). Talk now k.held k.wait k.recorded k.b c k.d) (sym e) holds.talk)

-- home sends a Grant with the bytes last stored
pub sent_grant_ok :
    (now : List ℕ) (k : Client) (cap : GrantCap) (bytes : List ℕ) → k.wait ≡ ForGrant → NoProbePending k → NoGrantPending k
    → bytes ≡ now → ClientIs now k → ClientIs now (sent_grant k cap bytes)
sent_grant_ok now k cap bytes waits probe grant e holds =
    let idle = idle_talk now k.held k.wait k.recorded k.b k.c k.d waits probe.1 grant.0 holds.talk in
    let sent : IsSent (grant_bytes k.recorded bytes) now k.held =
    subst (λ (recorded : Perm). IsSent (grant_bytes recorded bytes) now k.held) (sym idle.2)
    (is_sent now bytes k.held (holds.no_tip waits) holds.current e) in
    record {
      current = holds.current;
      talk = subst (λ (d : List Downward). Talk now k.held k.wait (grant_perm cap) k.b k.c (d ++ Grant cap (grant_bytes k.recorded bytes) ∷ []))
          (sym idle.1) (idle.0, waits, probe.0, refl, sent);
      asks = holds.asks;
      one_probe = holds.one_probe;
      no_tip = holds.no_tip;
      few = holds.few;
      apart = λ q. grant.1;
    }

-- home takes a GrantAck
pub took_grant_ack_ok : (now : List ℕ) (k : Client) → ClientIs now k → ClientIs now (record k { e = k.e - 1 })
took_grant_ack_ok now k holds = record {
  current = holds.current;
  talk = holds.talk;
  asks = holds.asks;
  one_probe = holds.one_probe;
  no_tip = holds.no_tip;
  few = let f : k.e ≤ 1 = holds.few in omega arith;
  apart = λ q. let f : k.e ≤ 1 = holds.few in omega arith;
}

-- a client stores
pub stored_ok :
    (now later : List ℕ) (k : Client) → perm_of k.held ≡ Tip → ClientIs now k
    → ClientIs later (record k { held = Writable later true })
stored_ok now later k e holds = record {
  current = refl;
  talk = store_talk now later k.held (Writable later true) k.wait k.recorded k.b k.c k.d e refl holds.talk;
  asks = holds.asks;
  one_probe = holds.one_probe;
  no_tip = λ q t. holds.no_tip q e;
  few = holds.few;
  apart = holds.apart;
}

-- an absent copy has whatever bytes are the last stored
pub none_current :
    (now later : List ℕ) (held : CachedCopy) → rank (perm_of held) ≤ 0 → IsCurrent now held → IsCurrent later held
none_current now later Absent z there = tt
none_current now later (Readable bytes) z there = absurd (omega arith)
none_current now later (Writable bytes dirty) z there = absurd (omega arith)

-- Nothing that speaks of a client that home records None changes with a store of another.
pub passed_ok : (now later : List ℕ) (k : Client) → k.recorded ≡ p_None → ClientIs now k → ClientIs later k
passed_ok now later k e holds = record {
  current = none_current now later k.held
      (omega (arith, ap rank e, held_talk now k.held k.wait k.recorded k.b k.c k.d holds.talk)) holds.current;
  talk = none_talk now later k.held k.wait k.recorded k.b k.c k.d e holds.talk;
  asks = holds.asks;
  one_probe = holds.one_probe;
  no_tip = holds.no_tip;
  few = holds.few;
  apart = holds.apart;
}

-- ## Bytes that home has not got yet

-- where the first message of C has data, home records Tip
pub has_data_tip : (now : List ℕ) (k : Client) (c : List Upward) → c ≡ k.c → HasData c → ClientIs now k → k.recorded ≡ Tip
has_data_tip now k [] e h holds = absurd h
has_data_tip now k (message ∷ rest) e h holds =
    data_tip now (upward_bytes message) k.recorded h (first_is now k message rest e holds).1

-- a client with Tip has nothing on C, and home records Tip
pub tip_is : (now : List ℕ) (k : Client) → perm_of k.held ≡ Tip → ClientIs now k → (k.c ≡ []) × (k.recorded ≡ Tip)
tip_is now k e holds = tip_talk now k.held k.wait k.recorded k.b k.c k.d e holds.talk

-- home records Tip of a client that has them
pub dirty_tip : (now : List ℕ) (k : Client) → ClientIs now k → IsDirty k → k.recorded ≡ Tip
dirty_tip now k holds (inl there) = (tip_is now k (dirty_copy_tip k.held there) holds).1
dirty_tip now k holds (inr h) = has_data_tip now k k.c refl h holds

-- data that is first on C stays first
pub has_data_more : (c : List Upward) (message : Upward) → HasData c → HasData (c ++ message ∷ [])
has_data_more [] message h = absurd h
has_data_more (x ∷ rest) message h = h

-- data that joins an empty C is first there
pub data_sent : (c : List Upward) (message : Upward) → c ≡ [] → IsThere (upward_bytes message) → HasData (c ++ message ∷ [])
data_sent [] message e there = there
data_sent (x ∷ rest) message e there = cc

-- a Release does not lose them
pub released_dirty :
    (now : List ℕ) (k : Client) (prune : Prune) → perm_of k.held ≡ prune_from prune → ClientIs now k → IsDirty k
    → IsDirty (released k prune)
released_dirty now k prune e holds (inl there) =
    inr (data_sent k.c (Release (surrender prune (dirty_bytes k.held))) (tip_is now k (dirty_copy_tip k.held there) holds).0
    (dirty_release k.held prune e there))
released_dirty now k prune e holds (inr h) = inr (has_data_more k.c (Release (surrender prune (dirty_bytes k.held))) h)

-- an answer to a Probe does not lose them
pub answered_dirty : (now : List ℕ) (k : Client) (b : List ProbeCap) → ClientIs now k → IsDirty k → IsDirty (answered k b)
answered_dirty now k [] holds h = h
answered_dirty now k (cap ∷ rest) holds (inl there) =
    inr (data_sent k.c (ProbeAck (probe_answer (perm_of k.held) cap (dirty_bytes k.held)))
    (tip_is now k (dirty_copy_tip k.held there) holds).0 (dirty_answer k.held cap there))
answered_dirty now k (cap ∷ rest) holds (inr h) =
    inr (has_data_more k.c (ProbeAck (probe_answer (perm_of k.held) cap (dirty_bytes k.held))) h)

-- an empty C has no data
pub none_has : (c : List Upward) → c ≡ [] → HasData c → ⊥
none_has [] e h = h
none_has (message ∷ rest) e h = cc

-- no such bytes are at a client to which a Grant is on its way
pub granted_clean :
    (now : List ℕ) (k : Client) (cap : GrantCap) (bytes : Option (List ℕ)) (rest : List Downward)
    → Grant cap bytes ∷ rest ≡ k.d → ClientIs now k → IsDirty k → ⊥
granted_clean now k cap bytes rest e holds =
    let talk : Talk now k.held k.wait k.recorded k.b k.c (Grant cap bytes ∷ rest) =
    subst (λ (d : List Downward). Talk now k.held k.wait k.recorded k.b k.c d) (sym e) holds.talk in
    let known = granted_talk now k.held k.wait k.recorded k.b k.c cap bytes rest talk in
    ⊎_elim (λ (there : IsThere (dirty_bytes k.held)). sent_not_tip now k.held bytes known.4 (dirty_copy_tip k.held there))
    (λ (h : HasData k.c). none_has k.c known.0 h)

-- so a Grant does not lose them
pub took_grant_dirty :
    (now : List ℕ) (k : Client) (d : List Downward) → d ≡ k.d → ClientIs now k → IsDirty k → IsDirty (took_grant k d)
took_grant_dirty now k [] e holds h = h
took_grant_dirty now k (ReleaseAck ∷ rest) e holds h = h
took_grant_dirty now k (Grant cap bytes ∷ rest) e holds h = absurd (granted_clean now k cap bytes rest e holds h)

-- nor at one that waits for a Grant, where no Probe and no Grant is pending at it
pub waiting_clean :
    (now : List ℕ) (k : Client) → k.wait ≡ ForGrant → NoProbePending k → NoGrantPending k → ClientIs now k → IsDirty k → ⊥
waiting_clean now k waits probe grant holds =
    let idle = idle_talk now k.held k.wait k.recorded k.b k.c k.d waits probe.1 grant.0 holds.talk in
    ⊎_elim (λ (there : IsThere (dirty_bytes k.held)). holds.no_tip waits (dirty_copy_tip k.held there))
    (λ (h : HasData k.c). none_has k.c idle.0 h)
