-- What is seen of a run at a client's pins leads from what the client holds and waits for to what it holds and waits for then.
use Rattle.std.proofs.Common.{◌≡◌, ◌≢◌, ℕ, ◌%◌, ◌==◌, ◌&&◌, Bool, true, false, cond, List, [], ◌∷◌, ◌++◌, Option, Some, None, refl, sym, ap, subst, ◌∙◌, inl, inr, ◌⊎◌, eq-eqb}
use Rattle.std.proofs.lemmas.Bool.{cases_eq, ne_eqb}
use Rattle.tl_types.specs.Bodies.{body_bytes, body_kind}
use Rattle.tl_types.specs.Codes.{channel_of}
use Rattle.tl_types.specs.Permission.{probe_perm, prune_from, prune_to}
use Rattle.tl_types.specs.Message.{probe_answer, surrender}
use Rattle.tl_types.specs.declared.message.Body.{Body}
use Rattle.tl_types.specs.declared.message.Body.TheVariants as body
use Rattle.tl_types.specs.declared.message.Downward.{Downward}
use Rattle.tl_types.specs.declared.message.Downward.TheVariants.{Grant, ReleaseAck}
use Rattle.tl_types.specs.declared.message.Upward.{Upward}
use Rattle.tl_types.specs.declared.message.Upward.TheVariants.{ProbeAck, Release}
use Rattle.tl_types.specs.declared.permission.GrantCap.{GrantCap}
use Rattle.tl_types.specs.declared.permission.Grow.{Grow}
use Rattle.tl_types.specs.declared.permission.ProbeCap.{ProbeCap}
use Rattle.tl_types.specs.declared.permission.ProbeCap.TheVariants.{ToB, ToN}
use Rattle.tl_types.specs.declared.permission.Prune.{Prune}
use Rattle.tl_types.specs.declared.permission.Prune.TheVariants.{TtoB, TtoN, BtoN}
use Rattle.tl_types.specs.declared.wait.Awaited.{Awaited}
use Rattle.tl_types.specs.declared.wait.Awaited.TheVariants.{Nothing, ForReleaseAck}
use Rattle.tl_protocol.specs.Client.{answered, first_bytes, released, sent_acquire, sent_grant, sent_probe, stored, took_c_from, took_grant, took_grant_ack, took_release_ack}
use Rattle.tl_protocol.specs.Copy.{dirty_bytes, perm_of, reduced}
use Rattle.tl_protocol.specs.Protocol.{Block, MayOn, accepted_from, after, block_of, granted, grants, home_after, home_bytes, served, took_data, with_client}
use Rattle.tl_protocol.specs.Queue.{HasFirst}
use Rattle.tl_protocol.specs.Runs.{IsRunFrom, after_next}
use Rattle.tl_protocol.specs.declared.client.Client.{Client}
use Rattle.tl_protocol.specs.declared.copy.CachedCopy.{CachedCopy}
use Rattle.tl_protocol.specs.declared.copy.CachedCopy.TheVariants.{Absent, Readable, Writable}
use Rattle.tl_protocol.specs.declared.event.Event.{Event}
use Rattle.tl_protocol.specs.declared.event.Event.TheVariants.{Load, Store, SendAcquire, SendRelease, AnswerProbe, TakeGrant, TakeReleaseAck, AcceptAcquire, SendProbe, TakeC, SendGrant, TakeGrantAck, SendGet, Serve, TakeData, Drop, SendPut, TakePutAck}
use Rattle.tl_protocol.specs.declared.home.Accepted.{Accepted}
use Rattle.tl_protocol.specs.declared.home.Outward.{Outward}
use Rattle.tl_protocol.specs.declared.home.Outward.TheVariants as outward
use Rattle.tl_protocol.specs.declared.shape.Shape.{Shape}
use Rattle.tl_protocol_lanes.specs.Lanes.{answer_post}
use Rattle.tlcheck_rules.specs.Rules.{client_of}
use Rattle.tlwire_search.specs.Explained.{as_list, link_seen, shown_as}
use Rattle.tlwire_search.specs.declared.seen.Seen.{Seen}
use Rattle.tlwire_search.specs.declared.seen.Seen.TheVariants.{OnLink}
use Rattle.tlwire_pins.specs.Pins.{is_own, is_told, line_of, lines_from, own, taken_seen}
use Rattle.tlwire_pins.specs.View.{MayLine, MaySeeAs, after_line, after_message, keeps, led_by, view_of}
use Rattle.tlwire_pins.specs.declared.view.Cores.TheVariants.{Watched}
use Rattle.tlwire_pins.specs.declared.view.View.{View}

-- ## One event

-- what is seen, if something is, may be seen and leads from a view to another
abbrev Leads : Shape → View → View → Option Seen → Type 0
Leads shape v w None = w ≡ v
Leads shape v w (Some x) = MayLine shape v x × (w ≡ after_line shape v x)

-- the view of a client that is changed
at_own : (s : Block) (c : ℕ) (k : Client) → view_of ((with_client s c k).client c) ≡ view_of k
at_own s c k = ap (λ (t : Bool). view_of (cond t k (s.client c))) (eq-eqb c c refl)

-- and of another
at_other : (s : Block) (c x : ℕ) (k : Client) → x ≢ c → view_of ((with_client s c k).client x) ≡ view_of (s.client x)
at_other s c x k ne = ap (λ (t : Bool). view_of (cond t k (s.client x))) (ne_eqb x c ne)

-- a message that is seen leads from a view to another
abbrev Sees : View → View → Body → Type 0
Sees v w message = MaySeeAs v (shown_as message) (body_kind message) × (w ≡ after_message v (body_kind message) (body_bytes message))

abbrev view : CachedCopy → Awaited → View
view held wait = record { held = held; wait = wait }

-- a Release
release_sees : (held : CachedCopy) (wait : Awaited) (prune : Prune) → wait ≡ Nothing → perm_of held ≡ prune_from prune
    → Sees (view held wait) (view (reduced held (prune_to prune)) ForReleaseAck) (body.Upward (Release (surrender prune (dirty_bytes held))))
release_sees Absent wait TtoB w p = cc
release_sees Absent wait TtoN w p = cc
release_sees Absent wait BtoN w p = cc
release_sees (Readable bytes) wait TtoB w p = cc
release_sees (Readable bytes) wait TtoN w p = cc
release_sees (Readable bytes) wait BtoN w p = ((w, refl, (refl, refl)), refl)
release_sees (Writable bytes true) wait TtoB w p = ((w, refl, (refl, refl)), refl)
release_sees (Writable bytes true) wait TtoN w p = ((w, refl, (refl, refl)), refl)
release_sees (Writable bytes true) wait BtoN w p = cc
release_sees (Writable bytes false) wait TtoB w p = ((w, refl, (refl, refl)), refl)
release_sees (Writable bytes false) wait TtoN w p = ((w, refl, (refl, refl)), refl)
release_sees (Writable bytes false) wait BtoN w p = cc

-- an answer to a Probe
answer_sees : (held : CachedCopy) (wait : Awaited) (asked : ProbeCap) → wait ≢ ForReleaseAck
    → Sees (view held wait) (view (reduced held (probe_perm asked)) wait) (body.Upward (ProbeAck (probe_answer (perm_of held) asked (dirty_bytes held))))
answer_sees Absent wait ToB n = ((n, (refl, refl)), refl)
answer_sees Absent wait ToN n = ((n, (refl, refl)), refl)
answer_sees (Readable bytes) wait ToB n = ((n, (refl, refl)), refl)
answer_sees (Readable bytes) wait ToN n = ((n, (refl, refl)), refl)
answer_sees (Writable bytes true) wait ToB n = ((n, (refl, refl)), refl)
answer_sees (Writable bytes true) wait ToN n = ((n, (refl, refl)), refl)
answer_sees (Writable bytes false) wait ToB n = ((n, (refl, refl)), refl)
answer_sees (Writable bytes false) wait ToN n = ((n, (refl, refl)), refl)

answer_leads : (shape : Shape) (c b : ℕ) (k : Client) (probes : List ProbeCap) → HasFirst probes → k.wait ≢ ForReleaseAck
    → Leads shape (view_of k) (view_of (answered k probes)) (link_seen b (answer_post c k probes))
answer_leads shape c b k [] h n = let e = h.2 in cc
answer_leads shape c b k (asked ∷ rest) h n = answer_sees k.held k.wait asked n

-- a Grant, and a ReleaseAck
grant_leads : (shape : Shape) (c b : ℕ) (k : Client) (d : List Downward)
    → ((cap : GrantCap) × (bytes : Option (List ℕ)) × (rest : List Downward) × (d ≡ Grant cap bytes ∷ rest))
    → Leads shape (view_of k) (view_of (took_grant k d)) (taken_seen c b d)
grant_leads shape c b k [] h = let e = h.3 in cc
grant_leads shape c b k (ReleaseAck ∷ rest) h = let e = h.3 in cc
grant_leads shape c b k (Grant cap None ∷ rest) h = (tt, refl)
grant_leads shape c b k (Grant cap (Some bytes) ∷ rest) h = (tt, refl)

ack_leads : (shape : Shape) (c b : ℕ) (k : Client) (d : List Downward) → ((rest : List Downward) × (d ≡ ReleaseAck ∷ rest))
    → Leads shape (view_of k) (view k.held Nothing) (taken_seen c b d)
ack_leads shape c b k [] h = let e = h.1 in cc
ack_leads shape c b k (Grant cap bytes ∷ rest) h = let e = h.1 in cc
ack_leads shape c b k (ReleaseAck ∷ rest) h = (tt, refl)

-- what leads to a view leads to the same view
to_same : (shape : Shape) (v w u : View) (l : Option Seen) → u ≡ w → Leads shape v w l → Leads shape v u l
to_same shape v w u l e h = subst (λ (x : View). Leads shape v x l) (sym e) h

-- what home takes and sends does not change what a client holds and waits for
accepted_view : (s : Block) (c x : ℕ) (a : List Grow) → view_of ((accepted_from s c a).client x) ≡ view_of (s.client x)
accepted_view s c x [] = refl
accepted_view s c x (grow ∷ rest) = elim (cases_eq x c) [
  | inl same ↦ subst (λ (y : ℕ). view_of ((accepted_from s c (grow ∷ rest)).client y) ≡ view_of (s.client y)) (sym same) (at_own s c (record (s.client c) { a = rest }))
  | inr other ↦ at_other s c x (record (s.client c) { a = rest }) other
]

-- home with the data of the first message of C
abbrev took_home : Block → ℕ → Block
took_home s c = record s { home = home_after s.home (first_bytes (s.client c).c) }

took_c_view : (k : Client) (c : List Upward) → view_of (took_c_from k c) ≡ view_of k
took_c_view k [] = refl
took_c_view k (ProbeAck answer ∷ rest) = refl
took_c_view k (Release given ∷ rest) = refl

-- a client that is changed, but not in what it holds and waits for
kept_view : (s : Block) (c x : ℕ) (k : Client) → view_of k ≡ view_of (s.client c) → view_of ((with_client s c k).client x) ≡ view_of (s.client x)
kept_view s c x k same = elim (cases_eq x c) [
  | inl e ↦ subst (λ (y : ℕ). view_of ((with_client s c k).client y) ≡ view_of (s.client y)) (sym e) (at_own s c k ∙ same)
  | inr other ↦ at_other s c x k other
]

grants_view : (shape : Shape) (s : Block) (c x : ℕ) (a : Option Accepted) → view_of ((grants shape s c a).client x) ≡ view_of (s.client x)
grants_view shape s c x None = refl
grants_view shape s c x (Some acquire) =
    kept_view s c x (sent_grant (s.client c) (granted shape s acquire) (home_bytes s.home)) refl

served_view : (s : Block) (x : ℕ) (o : Outward) → view_of ((served s o).client x) ≡ view_of (s.client x)
served_view s x outward.Quiet = refl
served_view s x outward.Get = refl
served_view s x (outward.Data bytes) = refl
served_view s x (outward.Put bytes) = refl
served_view s x outward.PutAck = refl

data_view : (s : Block) (x : ℕ) (o : Outward) → view_of ((took_data s o).client x) ≡ view_of (s.client x)
data_view s x outward.Quiet = refl
data_view s x outward.Get = refl
data_view s x (outward.Data bytes) = refl
data_view s x (outward.Put bytes) = refl
data_view s x outward.PutAck = refl

-- what is seen of an event leads from the view of its client to its view afterwards
leads : (shape : Shape) (s : Block) (e : Event) → MayOn shape s e
    → Leads shape (view_of (s.client (client_of e))) (view_of ((after shape s e).client (client_of e))) (line_of shape s e)
leads shape s (Load access) m = (m.1, refl)
leads shape s (Store access) m = (m.1, at_own s access.client (stored (s.client access.client) (access.address % shape.block_bytes) access.bytes))
leads shape s (SendAcquire c b grow) m = (m.1, at_own s c (sent_acquire (s.client c) grow))
leads shape s (SendRelease c b prune) m =
    let h = release_sees (s.client c).held (s.client c).wait prune m.1.0 m.1.1 in (h.0, at_own s c (released (s.client c) prune) ∙ h.1)
leads shape s (AnswerProbe c b) m =
    to_same shape _ _ _ (line_of shape s (AnswerProbe c b)) (at_own s c (answered (s.client c) (s.client c).b)) (answer_leads shape c b (s.client c) (s.client c).b m.1.0 m.1.1)
leads shape s (TakeGrant c b) m =
    to_same shape _ _ _ (line_of shape s (TakeGrant c b)) (at_own s c (took_grant (s.client c) (s.client c).d)) (grant_leads shape c b (s.client c) (s.client c).d m.1)
leads shape s (TakeReleaseAck c b) m =
    to_same shape _ _ _ (line_of shape s (TakeReleaseAck c b)) (at_own s c (took_release_ack (s.client c))) (ack_leads shape c b (s.client c) (s.client c).d m.1)
leads shape s (AcceptAcquire c b) m = accepted_view s c c (s.client c).a
leads shape s (SendProbe c b asked) m = kept_view s c c (sent_probe (s.client c) asked) refl
leads shape s (TakeC c b) m = kept_view (took_home s c) c c (took_c_from (s.client c) (s.client c).c) (took_c_view (s.client c) (s.client c).c)
leads shape s (SendGrant c b) m = grants_view shape s c c s.accepted
leads shape s (TakeGrantAck c b) m = kept_view (record s { accepted = None }) c c (took_grant_ack (s.client c)) refl
leads shape s (SendGet b) m = refl
leads shape s (Serve b) m = served_view s 0 s.outward
leads shape s (TakeData b) m = data_view s 0 s.outward
leads shape s (Drop b) m = refl
leads shape s (SendPut b) m = refl
leads shape s (TakePutAck b) m = refl

-- and leaves the views of others
others : (shape : Shape) (s : Block) (e : Event) (x : ℕ) → x ≢ client_of e → view_of ((after shape s e).client x) ≡ view_of (s.client x)
others shape s (Load access) x ne = refl
others shape s (Store access) x ne =
    at_other s access.client x (stored (s.client access.client) (access.address % shape.block_bytes) access.bytes) ne
others shape s (SendAcquire c b grow) x ne = at_other s c x (sent_acquire (s.client c) grow) ne
others shape s (SendRelease c b prune) x ne = at_other s c x (released (s.client c) prune) ne
others shape s (AnswerProbe c b) x ne = at_other s c x (answered (s.client c) (s.client c).b) ne
others shape s (TakeGrant c b) x ne = at_other s c x (took_grant (s.client c) (s.client c).d) ne
others shape s (TakeReleaseAck c b) x ne = at_other s c x (took_release_ack (s.client c)) ne
others shape s (AcceptAcquire c b) x ne = accepted_view s c x (s.client c).a
others shape s (SendProbe c b asked) x ne = at_other s c x (sent_probe (s.client c) asked) ne
others shape s (TakeC c b) x ne = at_other (took_home s c) c x (took_c_from (s.client c) (s.client c).c) ne
others shape s (SendGrant c b) x ne = grants_view shape s c x s.accepted
others shape s (TakeGrantAck c b) x ne = at_other (record s { accepted = None }) c x (took_grant_ack (s.client c)) ne
others shape s (SendGet b) x ne = refl
others shape s (Serve b) x ne = served_view s x s.outward
others shape s (TakeData b) x ne = data_view s x s.outward
others shape s (Drop b) x ne = refl
others shape s (SendPut b) x ne = refl
others shape s (TakePutAck b) x ne = refl

-- ## The lines of one client and one block

-- a line is of this client and this block, or of another
abbrev IsOf : Shape → ℕ → ℕ → Option Seen → Type 0
IsOf shape d b l = (c block : ℕ) → own shape c block (as_list l) ≡ cond ((d == c) && (b == block)) (as_list l) []

same_cond : (t : Bool) (xs : List Seen) → xs ≡ cond t xs xs
same_cond true xs = refl
same_cond false xs = refl

none_is_of : (shape : Shape) (d b : ℕ) → IsOf shape d b None
none_is_of shape d b c block = same_cond ((d == c) && (b == block)) []

-- of a message on A, C or D
told_cond : (t u : Bool) (x : Seen) → u ≡ true → cond (t && u) (x ∷ []) [] ≡ cond t (x ∷ []) []
told_cond true true x e = refl
told_cond false true x e = refl
told_cond true false x e = cc
told_cond false false x e = cc

told_is_of : (shape : Shape) (d b : ℕ) (message : Body) → is_told (channel_of (body_kind message)) ≡ true → IsOf shape d b (Some (OnLink d b (shown_as message)))
told_is_of shape d b message e c block = told_cond ((d == c) && (b == block)) (is_told (channel_of (body_kind message))) (OnLink d b (shown_as message)) e

release_told : (prune : Prune) (bytes : Option (List ℕ)) → is_told (channel_of (body_kind (body.Upward (Release (surrender prune bytes))))) ≡ true
release_told TtoB None = refl
release_told TtoB (Some bytes) = refl
release_told TtoN None = refl
release_told TtoN (Some bytes) = refl
release_told BtoN bytes = refl

answer_told : (held : CachedCopy) (asked : ProbeCap) → is_told (channel_of (body_kind (body.Upward (ProbeAck (probe_answer (perm_of held) asked (dirty_bytes held)))))) ≡ true
answer_told Absent ToB = refl
answer_told Absent ToN = refl
answer_told (Readable bytes) ToB = refl
answer_told (Readable bytes) ToN = refl
answer_told (Writable bytes true) ToB = refl
answer_told (Writable bytes true) ToN = refl
answer_told (Writable bytes false) ToB = refl
answer_told (Writable bytes false) ToN = refl

answer_is_of : (shape : Shape) (c b : ℕ) (k : Client) (probes : List ProbeCap) → IsOf shape c b (link_seen b (answer_post c k probes))
answer_is_of shape c b k [] d block = none_is_of shape c b d block
answer_is_of shape c b k (asked ∷ rest) d block = told_is_of shape c b (body.Upward (ProbeAck (probe_answer (perm_of k.held) asked (dirty_bytes k.held)))) (answer_told k.held asked) d block

taken_is_of : (shape : Shape) (c b : ℕ) (d : List Downward) → IsOf shape c b (taken_seen c b d)
taken_is_of shape c b [] x block = none_is_of shape c b x block
taken_is_of shape c b (ReleaseAck ∷ rest) x block = told_is_of shape c b (body.Downward ReleaseAck) refl x block
taken_is_of shape c b (Grant cap None ∷ rest) x block = told_is_of shape c b (body.Downward (Grant cap None)) refl x block
taken_is_of shape c b (Grant cap (Some bytes) ∷ rest) x block = told_is_of shape c b (body.Downward (Grant cap (Some bytes))) refl x block

line_is_of : (shape : Shape) (s : Block) (e : Event) → IsOf shape (client_of e) (block_of shape e) (line_of shape s e)
line_is_of shape s (Load access) c block = refl
line_is_of shape s (Store access) c block = refl
line_is_of shape s (SendAcquire c b grow) d block = told_is_of shape c b (body.AcquireBlock grow) refl d block
line_is_of shape s (SendRelease c b prune) d block =
    told_is_of shape c b (body.Upward (Release (surrender prune (dirty_bytes (s.client c).held)))) (release_told prune (dirty_bytes (s.client c).held)) d block
line_is_of shape s (AnswerProbe c b) d block = answer_is_of shape c b (s.client c) (s.client c).b d block
line_is_of shape s (TakeGrant c b) d block = taken_is_of shape c b (s.client c).d d block
line_is_of shape s (TakeReleaseAck c b) d block = taken_is_of shape c b (s.client c).d d block
line_is_of shape s (AcceptAcquire c b) d block = none_is_of shape c b d block
line_is_of shape s (SendProbe c b asked) d block = none_is_of shape c b d block
line_is_of shape s (TakeC c b) d block = none_is_of shape c b d block
line_is_of shape s (SendGrant c b) d block = none_is_of shape c b d block
line_is_of shape s (TakeGrantAck c b) d block = none_is_of shape c b d block
line_is_of shape s (SendGet b) d block = none_is_of shape 0 b d block
line_is_of shape s (Serve b) d block = none_is_of shape 0 b d block
line_is_of shape s (TakeData b) d block = none_is_of shape 0 b d block
line_is_of shape s (Drop b) d block = none_is_of shape 0 b d block
line_is_of shape s (SendPut b) d block = none_is_of shape 0 b d block
line_is_of shape s (TakePutAck b) d block = none_is_of shape 0 b d block

more_cond : (t : Bool) (x : Seen) (xs ys : List Seen) → cond t (x ∷ (xs ++ ys)) (xs ++ ys) ≡ cond t (x ∷ xs) xs ++ ys
more_cond true x xs ys = refl
more_cond false x xs ys = refl

-- lines behind lines
pub joined : (shape : Shape) (c b : ℕ) (xs ys : List Seen) → own shape c b (xs ++ ys) ≡ own shape c b xs ++ own shape c b ys
joined shape c b [] ys = refl
joined shape c b (x ∷ xs) ys =
    ap (λ (l : List Seen). cond (is_own shape c b x) (x ∷ l) l) (joined shape c b xs ys)
    ∙ more_cond (is_own shape c b x) x (own shape c b xs) (own shape c b ys)

-- ## A run

-- from one event to the next
through : (shape : Shape) (l : Option Seen) (v w : View) (more xs ys : List Seen) (x : Seen) → Leads shape v w l → as_list l ++ more ≡ xs ++ x ∷ ys
    → ((zs : List Seen) → more ≡ zs ++ x ∷ ys → MayLine shape (led_by (keeps Watched) shape w zs) x) → MayLine shape (led_by (keeps Watched) shape v xs) x
through shape None v w more xs ys x h e go = subst (λ (u : View). MayLine shape (led_by (keeps Watched) shape u xs) x) h (go xs e)
through shape (Some y) v w more [] ys x h e go = let same : y ≡ x = cc in subst (λ (z : Seen). MayLine shape v z) same h.0
through shape (Some y) v w more (z ∷ zs) ys x h e go =
    let same : y ≡ z = cc in
    let tail : more ≡ zs ++ x ∷ ys = cc in
    subst (λ (u : View). MayLine shape (led_by (keeps Watched) shape u zs) x) (h.1 ∙ ap (λ (q : Seen). after_line shape v q) same) (go zs tail)

-- the line of an event of the client and the block, and of another
here : (shape : Shape) (c block d b : ℕ) (l : Option Seen) → IsOf shape d b l → d ≡ c → b ≡ block → own shape c block (as_list l) ≡ as_list l
here shape c block d b l h same at =
    h c block ∙ (ap (λ (t : Bool). cond (t && (b == block)) (as_list l) []) (eq-eqb d c same)
    ∙ ap (λ (t : Bool). cond (true && t) (as_list l) []) (eq-eqb b block at))

cond_and : (t : Bool) (xs : List Seen) → cond (t && false) xs [] ≡ []
cond_and true xs = refl
cond_and false xs = refl

elsewhere : (shape : Shape) (c block d b : ℕ) (l : Option Seen) → IsOf shape d b l → (d ≢ c) ⊎ (b ≢ block) → own shape c block (as_list l) ≡ []
elsewhere shape c block d b l h (inl ne) = h c block ∙ ap (λ (t : Bool). cond (t && (b == block)) (as_list l) []) (ne_eqb d c ne)
elsewhere shape c block d b l h (inr ne) =
    h c block ∙ (ap (λ (t : Bool). cond ((d == c) && t) (as_list l) []) (ne_eqb b block ne) ∙ cond_and (d == c) (as_list l))

module _ (shape : Shape) (c block : ℕ) where
  -- what is seen of the client and the block from a state on
  abbrev later : (ℕ → Block) → List Event → List Seen
  later s run = own shape c block (lines_from shape s run)

  -- what is left of the block by an event
  same_block : (s : ℕ → Block) (e : Event) → block_of shape e ≡ block → after_next shape s e block ≡ after shape (s block) e
  same_block s e at = ap (λ (t : Bool). cond t (after shape (s block) e) (s block)) (eq-eqb block (block_of shape e) (sym at))

  other_block : (s : ℕ → Block) (e : Event) → block_of shape e ≢ block → after_next shape s e block ≡ s block
  other_block s e ne = ap (λ (t : Bool). cond t (after shape (s block) e) (s block)) (ne_eqb block (block_of shape e) (λ h. ne (sym h)))

  -- what the event's line is, and what it leads to
  first_leads : (s : ℕ → Block) (e : Event) → MayOn shape (s (block_of shape e)) e → client_of e ≡ c → block_of shape e ≡ block
      → Leads shape (view_of ((s block).client c)) (view_of ((after_next shape s e block).client c)) (line_of shape (s (block_of shape e)) e)
  first_leads s e m same at =
      let l : Option Seen = line_of shape (s (block_of shape e)) e in
      let one : Leads shape (view_of ((s block).client (client_of e))) (view_of ((after shape (s block) e).client (client_of e))) l =
      subst (λ (b : ℕ). Leads shape (view_of ((s b).client (client_of e))) (view_of ((after shape (s b) e).client (client_of e))) l) at
      (leads shape (s (block_of shape e)) e m) in
      to_same shape _ _ _ l (ap (λ (b : Block). view_of (b.client c)) (same_block s e at))
      (subst (λ (d : ℕ). Leads shape (view_of ((s block).client d)) (view_of ((after shape (s block) e).client d)) l) same one)

  -- each line that is seen of a run may be seen there
  pub seen_run : (run : List Event) (s : ℕ → Block) (xs ys : List Seen) (x : Seen) → IsRunFrom shape s run → later s run ≡ xs ++ x ∷ ys
      → MayLine shape (led_by (keeps Watched) shape (view_of ((s block).client c)) xs) x
  seen_run [] s [] ys x r e = cc
  seen_run [] s (z ∷ zs) ys x r e = cc
  seen_run (e ∷ es) s xs ys x r eq =
      let l : Option Seen = line_of shape (s (block_of shape e)) e in
      let more : List Seen = later (after_next shape s e) es in
      let split : own shape c block (as_list l) ++ more ≡ xs ++ x ∷ ys = sym (joined shape c block (as_list l) (lines_from shape (after_next shape s e) es)) ∙ eq in
      let go : (zs : List Seen) → more ≡ zs ++ x ∷ ys → MayLine shape (led_by (keeps Watched) shape (view_of ((after_next shape s e block).client c)) zs) x =
      λ zs h. seen_run es (after_next shape s e) zs ys x r.1 h in
      let past : own shape c block (as_list l) ≡ [] → view_of ((after_next shape s e block).client c) ≡ view_of ((s block).client c)
      → MayLine shape (led_by (keeps Watched) shape (view_of ((s block).client c)) xs) x =
      λ none kept. subst (λ (v : View). MayLine shape (led_by (keeps Watched) shape v xs) x) kept (go xs (sym (ap (λ (q : List Seen). q ++ more) none) ∙ split)) in
      elim (cases_eq (block_of shape e) block) [
        | inl at ↦ elim (cases_eq (client_of e) c) [
          | inl same ↦
              through shape l _ _ more xs ys x (first_leads s e r.0.1 same at)
              (sym (ap (λ (q : List Seen). q ++ more) (here shape c block (client_of e) (block_of shape e) l (line_is_of shape (s (block_of shape e)) e) same at)) ∙ split) go
          | inr other ↦
              past (elsewhere shape c block (client_of e) (block_of shape e) l (line_is_of shape (s (block_of shape e)) e) (inl other))
              (ap (λ (b : Block). view_of (b.client c)) (same_block s e at) ∙ others shape (s block) e c (λ h. other (sym h)))
        ]
        | inr ne ↦
            past (elsewhere shape c block (client_of e) (block_of shape e) l (line_is_of shape (s (block_of shape e)) e) (inr ne))
            (ap (λ (b : Block). view_of (b.client c)) (other_block s e ne))
      ]
