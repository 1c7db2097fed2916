-- What a register looks at is what the layers hold, also of the blocks of other banks.
use Rattle.std.proofs.Common.{◌≡◌, ℕ, zero, suc, ◌<◌, ◌==◌, ◌||◌, not, Bool, true, false, List, [], ◌∷◌, map, replicate, Option, Some, None, refl, sym, ◌∙◌, ap, subst, arith, inl, inr}
use Rattle.std.proofs.Math.Bool.{or-true, and-false}
use Rattle.std.specs.Prelude.{◌↔◌, IsTrue, IfSome, MatchOption}
use Rattle.std.specs.Option.{option_map}
use Rattle.std.specs.List.{All, list_any}
use Rattle.std.proofs.lemmas.Bool.{cases_eq, ne_eqb}
use Rattle.std.proofs.lemmas.List.Elements.{All-head, All-tail}
use Rattle.tl_types.specs.Lane.{bodies_of}
use Rattle.tl_types.specs.Message.{is_grant, is_probe_ack}
use Rattle.tl_types.specs.declared.channel.Channel.{Channel}
use Rattle.tl_types.specs.declared.channel.Channel.TheVariants.{B, C, D, E}
use Rattle.tl_types.specs.declared.message.Body.{Body}
use Rattle.tl_types.specs.declared.message.Body.TheVariants.{ProbeBlock, Upward as b_Upward, Downward as b_Downward, GrantAck}
use Rattle.tl_types.specs.declared.message.Downward.{Downward}
use Rattle.tl_types.specs.declared.message.Upward.{Upward}
use Rattle.tl_types.specs.declared.permission.Perm.TheVariants.{None as p_None}
use Rattle.tl_types.specs.declared.permission.ProbeCap.{ProbeCap}
use Rattle.tl_map.specs.Places.{bank_of}
use Rattle.tl_protocol.specs.declared.client.Client.{Client}
use Rattle.tl_protocol.specs.declared.event.Event.{Event}
use Rattle.tl_protocol.specs.declared.home.Line.{Line}
use Rattle.tl_protocol.specs.declared.home.Outward.{Outward}
use Rattle.tl_protocol.specs.declared.home.Outward.TheVariants.{Quiet, Get, Data, Put, PutAck}
use Rattle.tl_protocol.specs.declared.shape.Shape.{Shape}
use Rattle.tl_protocol.specs.Protocol.{Block, block_of, is_alone, is_none}
use Rattle.tl_protocol.specs.Runs.{after_next, at_reset, end_from}
use Rattle.tl_protocol_lanes.specs.Lists.{list_in}
use Rattle.tl_links.specs.Table.{lane_in, some_has}
use Rattle.tl_links.specs.Wanted.{is_wanted}
use Rattle.tl_links.specs.declared.wanted.Wanted.{Wanted}
use Rattle.tl_links.specs.declared.wanted.Wanted.TheVariants.{Any, ProbeAck, Grant}
use Rattle.tl_ways.specs.Entries.{Entry}
use Rattle.tl_bank_home.specs.Directories.{line_of, perm_in, recorded_of, way_of}
use Rattle.tl_bank_home.specs.Homes.{HomeState, bank_in, geometry_in, line_in, outward_in, recorded_in}
use Rattle.tl_registers.specs.Fit.{Fits}
use Rattle.tl_registers.specs.Pending.{any_below, grant_pending, has_first, has_grant_pending, is_probed, is_quiet, probe_pending}
use Rattle.tl_registers.specs.Records.{Records}
use Rattle.tl_registers.specs.Register.{IsKnown}
use Rattle.tl_registers.specs.Registers.{register_of}
use Rattle.tl_registers.specs.declared.register.Register.{Register}
use Rattle.tl_bank_spec.specs.View.{View, end_at, client_at, shape_of}
use Rattle.tl_bank_spec.specs.Own.{IsOwn}
use Rattle.tl_bank_laws.specs.Layers.{Layers}
use Rattle.tl_bank_laws.specs.Means.{Means}
use Rattle.tl_bank_laws.proofs.Crossed.{own-or-not}
use Rattle.tl_bank_laws.proofs.Dues.{found-each}
use Rattle.tl_protocol_lanes.proofs.Logs.{interleaves}

-- ## The blocks of other banks

-- events of blocks of which a fact holds leave a block of which it does not
end-other : (shape : Shape) (P : ℕ → Type 0) (s : ℕ → Block) (es : List Event) (b : ℕ) → (P b → ⊥)
    → All (λ e. P (block_of shape e)) es → end_from shape s es b ≡ s b
end-other shape P s [] b apart all = refl
end-other shape P s (e ∷ es) b apart all =
    let here : P (block_of shape e) = All-head (λ (x : Event). P (block_of shape x)) e es all in
    let ne : (b == block_of shape e) ≡ false = ne_eqb b (block_of shape e) (λ same. apart (subst P (sym same) here)) in
    let first : after_next shape s e b ≡ s b = rw ne refl in
    end-other shape P (after_next shape s e) es b apart (All-tail (λ (x : Event). P (block_of shape x)) e es all) ∙ first

-- another bank's block is as at reset
pub other-reset : (v : View) (h : Layers) (b : ℕ) → Means v h → (IsOwn v.geometry v.number b → ⊥)
    → end_at v b ≡ at_reset (shape_of v.geometry) v.image b
other-reset v h b m apart =
    end-other (shape_of v.geometry) (IsOwn v.geometry v.number) (at_reset (shape_of v.geometry) v.image) v.log b apart m.own

-- home has no copy of another bank's block
line-other : (home : HomeState) (b : ℕ) → (bank_of (geometry_in home) b == bank_in home) ≡ false → line_in home b ≡ None
unfolding line_in line_of way_of geometry_in bank_in
line-other home b h = rw h refl

-- and records no client of it
recorded-other : (home : HomeState) (c b : ℕ) → (bank_of (geometry_in home) b == bank_in home) ≡ false → recorded_in home c b ≡ p_None
unfolding recorded_in recorded_of way_of geometry_in bank_in
recorded-other home c b h = rw h refl

-- a block of the memory that is not of this bank is not of home's bank
elsewhere : (v : View) (h : Layers) (b : ℕ) → Means v h → b < v.geometry.memory_blocks → (IsOwn v.geometry v.number b → ⊥)
    → (bank_of (geometry_in h.home) b == bank_in h.home) ≡ false
elsewhere v h b m l apart =
    rw (m.home_geometry, m.home_bank) (ne_eqb (bank_of v.geometry b) v.number (λ same. apart (l, same)))

-- ## Home

-- home's copy of each block of the memory
pub line-read : (v : View) (h : Layers) (b : ℕ) → Means v h → b < v.geometry.memory_blocks → line_in h.home b ≡ (end_at v b).home
line-read v h b m l =
    elim (own-or-not v b) [
      | inl own ↦ (m.home b own).line
      | inr apart ↦
          line-other h.home b (elsewhere v h b m l apart) ∙ ap (λ (s : Block). s.home) (sym (other-reset v h b m apart))
    ]

-- what home records of each block of the memory
pub recorded-read : (v : View) (h : Layers) (c b : ℕ) → Means v h → b < v.geometry.memory_blocks
    → recorded_in h.home c b ≡ (client_at v c b).recorded
recorded-read v h c b m l =
    elim (own-or-not v b) [
      | inl own ↦ (m.home b own).recorded c
      | inr apart ↦
          recorded-other h.home c b (elsewhere v h b m l apart)
          ∙ ap (λ (s : Block). (s.client c).recorded) (sym (other-reset v h b m apart))
    ]

-- an entry of the directory that says what home has and records of a block says what the state has
pub entry-read : (v : View) (h : Layers) (b : ℕ) → Means v h → b < v.geometry.memory_blocks → (found : Option Entry)
    → MatchOption found (line_in h.home b ≡ None) (λ entry. option_map (λ (l : Line). l.dirty) (line_in h.home b) ≡ Some entry.dirty)
    → ((client : ℕ) → perm_in found client ≡ recorded_in h.home client b) → Records found (end_at v b)
entry-read v h b m l None lines recorded =
    (sym (line-read v h b m l) ∙ lines, λ c. sym (recorded-read v h c b m l) ∙ sym (recorded c))
entry-read v h b m l (Some entry) lines recorded = (
  ap (λ (o : Option Line). option_map (λ (line : Line). line.dirty) o) (sym (line-read v h b m l)) ∙ lines,
  λ c. sym (recorded-read v h c b m l) ∙ sym (recorded c),
)

-- what passes of each block
pub outward-read : (v : View) (h : Layers) (b : ℕ) → Means v h → outward_in h.home b ≡ (end_at v b).outward
outward-read v h b m =
    elim (own-or-not v b) [
      | inl own ↦ (m.home b own).outward
      | inr apart ↦ m.quiet b apart ∙ ap (λ (s : Block). s.outward) (sym (other-reset v h b m apart))
    ]

-- a test whether nothing passes
pub quiet-test : (t : Bool) (o : Outward) → (IsTrue t ↔ (o ≡ Quiet)) → t ≡ is_quiet o
quiet-test true o h = ap is_quiet (sym (h.0 refl))
quiet-test false Quiet h = let bad : false ≡ true = h.1 refl in cc
quiet-test false Get h = refl
quiet-test false (Data bytes) h = refl
quiet-test false (Put bytes) h = refl
quiet-test false PutAck h = refl

-- ## What is pending

-- a Probe is found among the messages on B just where there is one
any-probe : (caps : List ProbeCap) → list_any (is_wanted Any) (map ProbeBlock caps) ≡ has_first caps
any-probe [] = refl
any-probe (cap ∷ rest) = refl

-- an answer is found among the messages on C just where there is one
any-answer : (messages : List Upward) → list_any (is_wanted ProbeAck) (map b_Upward messages) ≡ list_any is_probe_ack messages
any-answer [] = refl
any-answer (x ∷ rest) = ap (λ (t : Bool). is_probe_ack x || t) (any-answer rest)

-- a Grant is found among the messages on D just where there is one
any-grant : (messages : List Downward) → list_any (is_wanted Grant) (map b_Downward messages) ≡ list_any is_grant messages
any-grant [] = refl
any-grant (x ∷ rest) = ap (λ (t : Bool). is_grant x || t) (any-grant rest)

-- a GrantAck is found among the messages on E just where there is one
any-ack : (n : ℕ) → list_any (is_wanted Any) (replicate n GrantAck) ≡ not (n == 0)
any-ack zero = refl
any-ack (suc n) = ap not (sym (ne_eqb (suc n) 0 (λ e. absurd (omega (arith, e)))))

-- whether a block's messages on a channel have one that is looked for
abbrev pub has : Layers → ℕ → Channel → ℕ → Wanted → Bool
has h c k b wanted = list_any (is_wanted wanted) (bodies_of b (lane_in h.links c k).messages)

-- the links have such a message just where the block's own list has one
has-list : (v : View) (h : Layers) (c : ℕ) (k : Channel) (b : ℕ) (wanted : Wanted) → Means v h → c < v.geometry.clients
    → has h c k b wanted ≡ list_any (is_wanted wanted) (list_in (client_at v c b) k)
has-list v h c k b wanted m l =
    rw (m.lanes c k l) (ap (λ (bodies : List Body). list_any (is_wanted wanted) bodies) (sym ((interleaves (shape_of v.geometry) v.image v.log m.lawful).ordered c b k)))

-- a Probe of a block, or an answer
probed-read : (v : View) (h : Layers) (c b : ℕ) → Means v h → c < v.geometry.clients
    → (has h c B b Any || has h c C b ProbeAck) ≡ is_probed (client_at v c b)
probed-read v h c b m l =
    let k : Client = client_at v c b in
    let asked : has h c B b Any ≡ has_first k.b = has-list v h c B b Any m l ∙ any-probe k.b in
    let answered : has h c C b ProbeAck ≡ list_any is_probe_ack k.c = has-list v h c C b ProbeAck m l ∙ any-answer k.c in
    rw (asked, answered) refl

-- a Grant of a block, or its GrantAck
granted-read : (v : View) (h : Layers) (c b : ℕ) → Means v h → c < v.geometry.clients
    → (has h c D b Grant || has h c E b Any) ≡ has_grant_pending (client_at v c b)
granted-read v h c b m l =
    let k : Client = client_at v c b in
    let sent : has h c D b Grant ≡ list_any is_grant k.d = has-list v h c D b Grant m l ∙ any-grant k.d in
    let taken : has h c E b Any ≡ not (k.e == 0) = has-list v h c E b Any m l ∙ any-ack k.e in
    rw (sent, taken) refl

-- the links have such a message at some client just where a client below n has one
some-read : (h : Layers) (k : Channel) (b : ℕ) (wanted : Wanted) (n : ℕ)
    → some_has h.links k b wanted n ≡ any_below (λ c. has h c k b wanted) n
some-read h k b wanted zero = refl
some-read h k b wanted (suc n) = ap (λ (t : Bool). t || has h n k b wanted) (some-read h k b wanted n)

-- and so for two channels
some-either : (h : Layers) (k l : Channel) (b : ℕ) (first second : Wanted) (n : ℕ)
    → (some_has h.links k b first n || some_has h.links l b second n)
    ≡ (any_below (λ c. has h c k b first) n || any_below (λ c. has h c l b second) n)
some-either h k l b first second n =
    ap (λ (t : Bool). t || some_has h.links l b second n) (some-read h k b first n)
    ∙ ap (λ (t : Bool). any_below (λ c. has h c k b first) n || t) (some-read h l b second n)

-- four tests, paired either way
paired : (a b c d : Bool) → ((a || b) || (c || d)) ≡ ((a || c) || (b || d))
paired true b c d = refl
paired false true true d = refl
paired false true false d = refl
paired false false c d = refl

-- one below n passes either of two tests
either-below : (f g test : ℕ → Bool) (n : ℕ) → ((c : ℕ) → c < n → (f c || g c) ≡ test c)
    → (any_below f n || any_below g n) ≡ any_below test n
either-below f g test zero each = refl
either-below f g test (suc n) each =
    let before = either-below f g test n (λ c l. each c (omega arith)) in
    let here = each n (omega arith) in
    paired (any_below f n) (f n) (any_below g n) (g n) ∙ rw (before, here) refl

-- a Probe of a block at some client, or an answer
pub probe_pending-read : (v : View) (h : Layers) (b : ℕ) → Means v h
    → (some_has h.links B b Any h.links.clients || some_has h.links C b ProbeAck h.links.clients)
    ≡ probe_pending (shape_of v.geometry) (end_at v b)
probe_pending-read v h b m =
    let n : ℕ = v.geometry.clients in
    ap (λ (x : ℕ). some_has h.links B b Any x || some_has h.links C b ProbeAck x) m.links_clients
    ∙ some-either h B C b Any ProbeAck n
    ∙ either-below (λ c. has h c B b Any) (λ c. has h c C b ProbeAck) (λ c. is_probed (client_at v c b)) n
    (λ c l. probed-read v h c b m l)

-- a Grant of a block at some client, or its GrantAck
pub grant_pending-read : (v : View) (h : Layers) (b : ℕ) → Means v h
    → (some_has h.links D b Grant h.links.clients || some_has h.links E b Any h.links.clients)
    ≡ grant_pending (shape_of v.geometry) (end_at v b)
grant_pending-read v h b m =
    let n : ℕ = v.geometry.clients in
    ap (λ (x : ℕ). some_has h.links D b Grant x || some_has h.links E b Any x) m.links_clients
    ∙ some-either h D E b Grant Any n
    ∙ either-below (λ c. has h c D b Grant) (λ c. has h c E b Any) (λ c. has_grant_pending (client_at v c b)) n
    (λ c l. granted-read v h c b m l)

-- the answer where the first of two tests passes, and where it fails
pub or-passes : (x a b t : Bool) → x ≡ a → x ≡ true → (a || b) ≡ t → x ≡ t
or-passes x a b t is passes h = let a_is : a ≡ true = sym is ∙ passes in let rest : true ≡ t = (rw a_is at h) in passes ∙ rest

-- where the first fails, the second gives the answer
pub or-fails : (x y a b t : Bool) → x ≡ a → x ≡ false → y ≡ b → (a || b) ≡ t → y ≡ t
or-fails x y a b t is fails last h = let a_is : a ≡ false = sym is ∙ fails in let rest : b ≡ t = (rw a_is at h) in last ∙ rest

-- ## Who has nothing

-- where nobody is recorded, each client is alone
pub alone-nobody : (n c : ℕ) (client : ℕ → Client) → ((x : ℕ) → (client x).recorded ≡ p_None) → is_alone n c client ≡ true
alone-nobody zero c client nobody = refl
alone-nobody (suc n) c client nobody =
    let before = alone-nobody n c client nobody in rw (nobody n, or-true (n == c), before) refl

-- where one below n is recorded, the client is not alone
pub alone-fails : (n c x : ℕ) (client : ℕ → Client) → x < n → ((x == c) || is_none (client x).recorded) ≡ false
    → is_alone n c client ≡ false
alone-fails zero c x client l h = absurd (omega arith)
alone-fails (suc n) c x client l h =
    elim (cases_eq x n) [
      | inl e ↦
          let here : ((n == c) || is_none (client n).recorded) ≡ false =
          ap (λ (y : ℕ). (y == c) || is_none (client y).recorded) (sym e) ∙ h in
          rw here refl
      | inr e ↦
          let before = alone-fails n c x client (omega arith) h in
          rw before (and-false ((n == c) || is_none (client n).recorded))
    ]

-- ## The open registers

-- a register that was found of a block knows its blocks
known-found : (v : View) (h : Layers) (block : ℕ) (o : Option Register) → Means v h → register_of block v.registers ≡ o
    → IfSome o (IsKnown v.geometry.memory_blocks)
known-found v h block None m found = tt
known-found v h block (Some r) m found =
    (found-each (Fits (shape_of v.geometry) (end_at v)) block v.registers r m.registers.agree.fits found).known

-- the register of a block knows its blocks
pub known-of : (v : View) (h : Layers) (block : ℕ) → Means v h → IfSome (register_of block v.registers) (IsKnown v.geometry.memory_blocks)
known-of v h block m = known-found v h block (register_of block v.registers) m refl
