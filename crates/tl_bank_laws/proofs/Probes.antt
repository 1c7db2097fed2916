-- Answering a Probe, and what it leaves.
use Rattle.std.proofs.Common.{◌≡◌, ◌≢◌, ℕ, ◌<◌, ◌≤◌, ◌^◌, ◌-◌, ◌==◌, not, true, false, cond, length, List, [], ◌∷◌, ◌++◌, map, Some, None, if◌then◌else◌, refl, sym, ◌∙◌, ap, subst, arith, eq-eqb}
use Rattle.std.proofs.lemmas.Bool.Decides.{nat_tests}
use Rattle.std.proofs.lemmas.Bool.{or_parts}
use Rattle.tl_types.specs.declared.limits.TheConstants.{MESSAGES}
use Rattle.tl_types.specs.Lane.{IsFirst, Lane, sent, is_here, with_message, without_first, bodies_of}
use Rattle.tl_types.specs.Permission.{probe_perm}
use Rattle.tl_types.specs.declared.channel.Channel.{Channel}
use Rattle.tl_types.specs.declared.channel.Channel.TheVariants.{B, C}
use Rattle.tl_types.specs.declared.message.Body.{Body}
use Rattle.tl_types.specs.declared.message.Body.TheVariants.{ProbeBlock, Upward as b_Upward}
use Rattle.tl_types.specs.declared.message.Message.{Message}
use Rattle.tl_types.specs.declared.message.ProbeAnswer.{ProbeAnswer}
use Rattle.tl_types.specs.declared.message.Upward.TheVariants.{ProbeAck}
use Rattle.tl_types.specs.declared.permission.ProbeCap.{ProbeCap}
use Rattle.tl_types.specs.declared.permission.Perm.{Perm}
use Rattle.tl_types.specs.declared.permission.Perm.TheVariants.{None as p_None, Branch, Tip}
use Rattle.tl_types.specs.declared.ticket.Ticket.{Ticket}
use Rattle.tl_types.specs.declared.wait.Awaited.{Awaited}
use Rattle.tl_types.specs.declared.wait.Awaited.TheVariants.{Nothing, ForGrant, ForReleaseAck}
use Rattle.tl_protocol.specs.Client.{answered}
use Rattle.tl_protocol.specs.Copy.{perm_of, reduced}
use Rattle.tl_protocol.specs.Protocol.{is_none}
use Rattle.tl_protocol.specs.declared.client.Client.{Client}
use Rattle.tl_protocol.specs.declared.copy.CachedCopy.{CachedCopy}
use Rattle.tl_protocol.specs.declared.copy.CachedCopy.TheVariants.{Absent, Readable, Writable}
use Rattle.tl_protocol.specs.declared.event.Event.TheVariants.{AnswerProbe}
use Rattle.tl_protocol_lanes.specs.Lanes.{answer_post, sent_to}
use Rattle.tl_protocol_lanes.proofs.Logs.{first_heads_its_list, interleaves}
use Rattle.tl_links.specs.Table.{LinkTable, lane_in, SameSize as SameLinks}
use Rattle.tl_copies.specs.Copies.{Tables, held_at, is_cell, SameSize as SameCopies}
use Rattle.tl_bank_spec.specs.Calls.{answer_probe_cases}
use Rattle.tl_bank_spec.specs.Cases.{any_body, awaits_release_ack, bad_share, block_named, first_block, link_full, no_client, other_share}
use Rattle.tl_bank_spec.specs.Refusal.{first_of}
use Rattle.tl_bank_spec.specs.Share.{ShareView, recount}
use Rattle.tl_bank_spec.specs.View.{View, client_at, perm_at, shape_of}
use Rattle.tl_bank_spec.specs.Own.{IsOwn}
use Rattle.tl_bank_spec.specs.Tables.{has_entry_for, copies_at}
use Rattle.tl_bank_spec.specs.Channels.{lane_at}
use Rattle.tl_bank_laws.specs.Entry.{HasPlace, entry_with}
use Rattle.tl_bank_laws.specs.Link.{HasRoom, IsHead}
use Rattle.tl_bank_laws.specs.Layers.{Layers}
use Rattle.tl_bank_laws.specs.Means.{Means}
use Rattle.tl_bank_laws.specs.Settled.{FindsProbe, IsFirstOn}
use Rattle.tl_bank_laws.proofs.Allowed.{AllFalse, all-false, client-is, share-is}
use Rattle.tl_bank_laws.proofs.Counts.{step-perm}
use Rattle.tl_bank_laws.proofs.Entries.{put-is}
use Rattle.tl_bank_laws.proofs.Heads.{HeadAllowed, head-allowed, head-first, head-own, is-head}
use Rattle.tl_bank_laws.proofs.Keep.{ClientStep, means-step}
use Rattle.tl_bank_laws.proofs.Places.{place-there}
use Rattle.tl_bank_laws.proofs.Shares.{share-count, share-enough}

-- ## The Probe that is there

-- a client that is not found to await a ReleaseAck does not wait for one
not-pending : (wait : Awaited) → awaits_release_ack wait ≡ false → wait ≢ ForReleaseAck
not-pending Nothing h = λ e. cc
not-pending ForGrant h = λ e. cc
not-pending ForReleaseAck h = cc

-- the ticket names the first message on B, the share has the client's count, no Release of the block is unanswered, and C has a place
pub record ProbeAllowed (v : View) (t : Ticket) (share : ShareView) : Type 0 where
  pub head : HeadAllowed v t B any_body
  pub count : share.count ≡ copies_at v t.client
  pub wait : (client_at v t.client (block_named v t B)).wait ≢ ForReleaseAck
  pub place : length (lane_at v t.client C).messages < MESSAGES

-- so it is where no refusal's case holds
probe-allowed : (v : View) (t : Ticket) (share : ShareView) → first_of (answer_probe_cases v t share) ≡ None → ProbeAllowed v t share
probe-allowed v t share none =
    let f : AllFalse (answer_probe_cases v t share) = all-false (answer_probe_cases v t share) none in
    let range = or_parts (no_client v t.client) (bad_share v t.client share) f.0 in
    let place = or_parts (not (t.bank == v.number)) (other_share v share) f.1.0 in
    let free : link_full v t.client C ≡ false = f.1.1.1.1.1.1.0 in
    record {
      head = head-allowed v t B any_body (client-is v t.client range.0) place.0 f.1.1.0 f.1.1.1.1.0;
      count = share-is v t.client share range.1 place.1;
      wait = not-pending (client_at v t.client (block_named v t B)).wait f.1.1.1.1.1.0;
      place = grind (arith, nat_tests);
    }

-- a list of Probes begins with its first message, a Probe
probe-begins : (bs : List ProbeCap) (body : Body) (zs : List Body) → map ProbeBlock bs ≡ body ∷ zs
    → (cap : ProbeCap) × (rest : List ProbeCap) × (body ≡ ProbeBlock cap) × (bs ≡ cap ∷ rest)
probe-begins [] body zs e = cc
probe-begins (cap ∷ bs) body zs e = let h : body ≡ ProbeBlock cap = cc in (cap, bs, h, refl)

-- two Probes of which the one is the other leave the same
same-cap : (x y : ProbeCap) → ProbeBlock x ≡ ProbeBlock y → x ≡ y
same-cap x y h = cc

-- the first message on B heads its block's list of Probes
first-probe : (v : View) (h : Layers) (c : ℕ) (x : Message) → Means v h → IsFirstOn v c B x
    → (cap : ProbeCap) × (rest : List ProbeCap) × (x.body ≡ ProbeBlock cap) × ((client_at v c x.block).b ≡ cap ∷ rest)
first-probe v h c x m first =
    probe-begins (client_at v c x.block).b x.body (bodies_of x.block first.0)
    (first_heads_its_list (shape_of v.geometry) v.image v.log c B x first.0 m.lawful first.1)

-- so it is a Probe
pub probe-is : (v : View) (h : Layers) (c : ℕ) (x : Message) → Means v h → IsFirstOn v c B x
    → (cap : ProbeCap) × (x.body ≡ ProbeBlock cap)
probe-is v h c x m first = let is = first-probe v h c x m first in (is.0, is.2)

-- ## The step

-- what answering a Probe shows of the bank before it
pub record Answers (v : View) (t : Ticket) (share : ShareView) (block : ℕ) (copy : CachedCopy) (wait : Awaited) (before : Perm)
    (answer : ProbeAnswer) : Type 0 where
  pub allowed : first_of (answer_probe_cases v t share) ≡ None
  pub finds : FindsProbe v t.client block copy wait before answer

-- a Probe that is found is of the block that the first message speaks of
pub probe-named : {v : View} {c block : ℕ} {copy : CachedCopy} {wait : Awaited} {before : Perm} {answer : ProbeAnswer}
    → FindsProbe v c block copy wait before answer → block ≡ first_block (lane_at v c B).messages
probe-named finds = sym (ap first_block finds.first.1)

-- and is found as well once there is room for the event
pub answers-with-room : (v old : View) (t : Ticket) (share : ShareView) (room block : ℕ) (copy : CachedCopy) (wait : Awaited)
    (before : Perm) (answer : ProbeAnswer) → v ≡ record old { room = room } → first_of (answer_probe_cases old t share) ≡ None
    → FindsProbe old t.client block copy wait before answer → Answers v t share block copy wait before answer
answers-with-room v old t share room block copy wait before answer made none finds =
    subst (λ (w : View). Answers w t share block copy wait before answer) (sym made)
    (record {
      allowed = none;
      finds = record {
        cap = finds.cap;
        first = finds.first;
        copy_is = finds.copy_is;
        wait_is = finds.wait_is;
        before_is = finds.before_is;
        answer_is = finds.answer_is;
      };
    })

-- the client's list on B begins with it
pub record Probed (v : View) (t : Ticket) (block : ℕ) (cap : ProbeCap) : Type 0 where
  pub rest : List ProbeCap
  pub list : (client_at v t.client block).b ≡ cap ∷ rest

probed-is : (v : View) (h : Layers) (t : Ticket) (share : ShareView) (block : ℕ) (copy : CachedCopy) (wait : Awaited) (before : Perm)
    (answer : ProbeAnswer) → Means v h → (answers : Answers v t share block copy wait before answer)
    → Probed v t block answers.finds.cap
probed-is v h t share block copy wait before answer m answers =
    let cap : ProbeCap = answers.finds.cap in
    let is = first-probe v h t.client (record { block = block; body = ProbeBlock cap }) m answers.finds.first in
    record {
      rest = is.1;
      list = is.3 ∙ ap (λ x. x ∷ is.1) (sym (same-cap cap is.0 is.2));
    }

-- the client's part of a block once it answered that Probe
abbrev done : (v : View) (t : Ticket) (block : ℕ) (cap : ProbeCap) → Probed v t block cap → Client
done v t block cap p = answered (client_at v t.client block) (cap ∷ p.rest)

-- answering the Probe is a step of the client, which has that part of the block afterwards
probe-step : (v : View) (h : Layers) (t : Ticket) (block : ℕ) (cap : ProbeCap) → Means v h
    → (share : ShareView) → ProbeAllowed v t share → (p : Probed v t block cap) → block ≡ block_named v t B
    → ClientStep v (AnswerProbe t.client block) t.client (done v t block cap p)
probe-step v h t block cap m share ok p is =
    let own : IsOwn v.geometry v.number block = subst (λ b. IsOwn v.geometry v.number b) (sym is) (head-own v h t B any_body m ok.head) in
    let k : Client = client_at v t.client block in
    let free : k.wait ≢ ForReleaseAck = subst (λ b. (client_at v t.client b).wait ≢ ForReleaseAck) (sym is) ok.wait in
    record {
      may = (own.0, (ok.head.client, ((cap, p.rest, p.list), free)));
      first = subst (λ b. IsFirst b (lane_at v t.client B).messages) (sym is) (head-first v t B any_body ok.head);
      leaves = refl;
      leaves_registers = tt;
      here = own.1;
      later = tt;
      client = λ x. ap (λ (bs : List ProbeCap). cond (x == t.client) (answered k bs) (client_at v x block)) p.list;
      recorded = refl;
    }

-- the links have the ticket's message first, where no refusal's case holds
pub probe-head : (v : View) (h : Layers) (t : Ticket) (share : ShareView) → Means v h → first_of (answer_probe_cases v t share) ≡ None
    → IsHead h.links t
probe-head v h t share m none = is-head v h t B any_body m (probe-allowed v t share none).head

-- channel C has a place for the answer
pub probe-room : (v : View) (h : Layers) (t : Ticket) (share : ShareView) (between : LinkTable) → Means v h
    → first_of (answer_probe_cases v t share) ≡ None → length v.log < 2 ^ 64 - 1 → SameLinks h.links between
    → ((x : ℕ) (l : Channel) → lane_in between x l
    ≡ (if is_here t.client t.channel x l then without_first (lane_in h.links x l) else lane_in h.links x l))
    → HasRoom between t.client C
probe-room v h t share between m none small same took =
    let ok = probe-allowed v t share none in
    let Took : Channel → Type 0 = λ k. (x : ℕ) (l : Channel) → lane_in between x l
    ≡ (if is_here t.client k x l then without_first (lane_in h.links x l) else lane_in h.links x l) in
    let from_b : Took B = subst Took ok.head.channel took in
    let elsewhere : is_here t.client B t.client C ≡ false = rw (eq-eqb t.client t.client refl) refl in
    let lane : lane_in between t.client C ≡ lane_at v t.client C =
    from_b t.client C
    ∙ (ap (λ here. cond here (without_first (lane_in h.links t.client C)) (lane_in h.links t.client C)) elsewhere
    ∙ m.lanes t.client C ok.head.client) in
    let counted : sent (lane_at v t.client C) ≤ length v.log = (interleaves (shape_of v.geometry) v.image v.log m.lawful).counted t.client C in
    record {
      client = rw (same.clients, m.links_clients) ok.head.client;
      place = rw lane ok.place;
      counted = rw lane (omega arith);
    }

-- a copy that has an entry once it is reduced had one before
fewer-entries : (copy : CachedCopy) (to : Perm) (wait : Awaited) → has_entry_for (reduced copy to) wait ≡ true → has_entry_for copy wait ≡ true
fewer-entries Absent p_None wait h = h
fewer-entries Absent Branch wait h = h
fewer-entries Absent Tip wait h = h
fewer-entries (Readable bytes) to wait h = refl
fewer-entries (Writable bytes dirty) to wait h = refl

-- so the client's table has a place for what the Probe leaves
pub probe-place : (v : View) (h : Layers) (t : Ticket) (share : ShareView) (block : ℕ) (copy : CachedCopy) (wait : Awaited)
    (before : Perm) (answer : ProbeAnswer) → Means v h
    → Answers v t share block copy wait before answer → HasPlace h.copies t.client block copy wait
probe-place v h t share block copy wait before answer m answers =
    let ok = probe-allowed v t share answers.allowed in
    let own : IsOwn v.geometry v.number block =
    subst (λ b. IsOwn v.geometry v.number b) (sym (probe-named answers.finds)) (head-own v h t B any_body m ok.head) in
    let k : Client = client_at v t.client block in
    place-there v h t.client block copy wait m ok.head.client own.0
    (λ need. fewer-entries k.held (probe_perm answers.finds.cap) k.wait
    (subst (λ (w : Awaited). has_entry_for (reduced k.held (probe_perm answers.finds.cap)) w ≡ true) answers.finds.wait_is
    (subst (λ (p : CachedCopy). has_entry_for p wait ≡ true) answers.finds.copy_is need)))

-- what the event sends is the answer
post-is : (v : View) (t : Ticket) (block : ℕ) (copy : CachedCopy) (wait : Awaited) (before : Perm) (answer : ProbeAnswer)
    → (finds : FindsProbe v t.client block copy wait before answer) → Probed v t block finds.cap
    → Some (record { client = t.client; channel = C; body = b_Upward (ProbeAck answer) })
    ≡ answer_post t.client (client_at v t.client block) (client_at v t.client block).b
post-is v t block copy wait before answer finds p =
    ap (λ (a : ProbeAnswer). Some (record { client = t.client; channel = C; body = b_Upward (ProbeAck a) })) finds.answer_is
    ∙ sym (ap (λ (bs : List ProbeCap). answer_post t.client (client_at v t.client block) bs) p.list)

-- the bank is kept once the Probe is gone from B, its answer is on C, and the reduced copy is in the client's table
pub probe-keeps : (v : View) (h : Layers) (t : Ticket) (share : ShareView) (block : ℕ) (copy : CachedCopy) (wait : Awaited)
    (before : Perm) (answer : ProbeAnswer) (room : ℕ) (between links : LinkTable) (tables : Tables)
    → Means v h → Answers v t share block copy wait before answer → SameLinks h.links between
    → ((x : ℕ) (l : Channel) → lane_in between x l
    ≡ (if is_here t.client t.channel x l then without_first (lane_in h.links x l) else lane_in h.links x l))
    → SameLinks between links
    → ((x : ℕ) (l : Channel) → lane_in links x l
    ≡ (if is_here t.client C x l then with_message (lane_in between x l) (record { block = block; body = b_Upward (ProbeAck answer) })
    else lane_in between x l))
    → SameCopies h.copies tables
    → ((x y : ℕ) → held_at tables x y ≡ (if is_cell t.client block x y then entry_with copy wait else held_at h.copies x y))
    → Means (record v { log = v.log ++ AnswerProbe t.client block ∷ []; room = room }) (record h { links = links; copies = tables })
probe-keeps v h t share block copy wait before answer room between links tables m answers first took second sends same after =
    let ok = probe-allowed v t share answers.allowed in
    let cap : ProbeCap = answers.finds.cap in
    let p : Probed v t block cap = probed-is v h t share block copy wait before answer m answers in
    let Took : Channel → Type 0 = λ k. (x : ℕ) (l : Channel) → lane_in between x l
    ≡ (if is_here t.client k x l then without_first (lane_in h.links x l) else lane_in h.links x l) in
    let from_b : Took B = subst Took ok.head.channel took in
    means-step v h (record h { links = links; copies = tables }) (AnswerProbe t.client block) t.client (done v t block cap p) room m
    (probe-step v h t block cap m share ok p (probe-named answers.finds))
    (record {
      lanes = λ x l.
          sends x l
          ∙ ap (λ (lane : Lane). cond (is_here t.client C x l)
          (with_message lane (record { block = block; body = b_Upward (ProbeAck answer) })) lane) (from_b x l)
          ∙ ap (λ post. sent_to post block x l (cond (is_here t.client B x l) (without_first (lane_in h.links x l)) (lane_in h.links x l)))
          (post-is v t block copy wait before answer answers.finds p);
      copies =
          put-is h.copies tables t.client block copy (done v t block cap p).held wait (client_at v t.client block).wait
          answers.finds.copy_is answers.finds.wait_is after;
      links_size = record { bank = second.bank ∙ first.bank; clients = second.clients ∙ first.clients };
      copies_size = same;
      home = refl;
      limit = refl;
      clock = refl;
    })

-- ## The share

-- the share can lose the client's copy of the block, where there is one, and can gain one
pub probe-enough : (v : View) (h : Layers) (t : Ticket) (share : ShareView) (block : ℕ) (copy : CachedCopy) (wait : Awaited)
    (before : Perm) (answer : ProbeAnswer) → Means v h
    → Answers v t share block copy wait before answer → (is_none before ≡ false → 0 < share.count) × (share.count < 2 ^ 31)
probe-enough v h t share block copy wait before answer m answers =
    let ok = probe-allowed v t share answers.allowed in
    let own : IsOwn v.geometry v.number block =
    subst (λ b. IsOwn v.geometry v.number b) (sym (probe-named answers.finds)) (head-own v h t B any_body m ok.head) in
    let enough = share-enough v t.client block share m.geometry own.0 ok.count in
    (λ some. enough.0 (sym (ap is_none answers.finds.before_is) ∙ some), enough.1)

-- the copy is what the client holds afterwards
pub probe-later : (v : View) (h : Layers) (t : Ticket) (share : ShareView) (block : ℕ) (copy : CachedCopy) (wait : Awaited)
    (before : Perm) (answer : ProbeAnswer) (room : ℕ) → Means v h
    → Answers v t share block copy wait before answer
    → perm_of copy ≡ perm_at (record v { log = v.log ++ AnswerProbe t.client block ∷ []; room = room }) t.client block
probe-later v h t share block copy wait before answer room m answers =
    let ok = probe-allowed v t share answers.allowed in
    let cap : ProbeCap = answers.finds.cap in
    let p : Probed v t block cap = probed-is v h t share block copy wait before answer m answers in
    ap perm_of answers.finds.copy_is
    ∙ sym (step-perm v (AnswerProbe t.client block) t.client (done v t block cap p) room
    (probe-step v h t block cap m share ok p (probe-named answers.finds)))

-- and the share counts the client's copies afterwards
pub probe-count : (v : View) (h : Layers) (t : Ticket) (share : ShareView) (block : ℕ) (copy : CachedCopy) (wait : Awaited)
    (before : Perm) (answer : ProbeAnswer) (room : ℕ) → Means v h
    → Answers v t share block copy wait before answer
    → recount before (perm_of copy) share.count
    ≡ copies_at (record v { log = v.log ++ AnswerProbe t.client block ∷ []; room = room }) t.client
probe-count v h t share block copy wait before answer room m answers =
    let ok = probe-allowed v t share answers.allowed in
    let cap : ProbeCap = answers.finds.cap in
    let p : Probed v t block cap = probed-is v h t share block copy wait before answer m answers in
    share-count v (AnswerProbe t.client block) t.client (done v t block cap p) room share before (perm_of copy)
    (probe-step v h t block cap m share ok p (probe-named answers.finds)) ok.count answers.finds.before_is (ap perm_of answers.finds.copy_is)
