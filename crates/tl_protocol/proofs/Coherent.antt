-- Every run is coherent.
use Rattle.std.proofs.Common.{◌≡◌, ◌≢◌, ℕ, ◌*◌, ◌/◌, ◌%◌, ◌<◌, true, false, List, [], ◌∷◌, length, slice_index, Option, Some, None, ◌==◌, ⊎_elim, sym, refl, ap, ◌∙◌, subst, arith, eqb-true}
use Rattle.std.proofs.lemmas.Bool.{eqb-false}
use Rattle.tl_types.specs.declared.permission.Perm.TheVariants.{None as p_None}
use Rattle.tl_protocol.specs.declared.event.Access.{Access}
use Rattle.tl_protocol.specs.declared.event.Event.{Event}
use Rattle.tl_protocol.specs.declared.event.Event.TheVariants.{Load}
use Rattle.tl_protocol.specs.declared.shape.Shape.{Shape}
use Rattle.tl_protocol.specs.Protocol.{Block, reset, block_of, May, after}
use Rattle.tl_protocol.specs.declared.client.Client.{Client}
use Rattle.tl_protocol.specs.declared.home.Line.{Line}
use Rattle.tl_protocol.specs.declared.home.Outward.{Outward}
use Rattle.tl_types.specs.Permission.{rank}
use Rattle.tl_protocol.specs.Copy.{perm_of}
use Rattle.tl_protocol.specs.Access.{ReadsAs}
use Rattle.tl_protocol.specs.Runs.{MayNext, after_next, IsRunFrom, end_from, IsRun, end_of, at_reset}
use Rattle.tl_types.specs.Bytes.{image_bytes}
use Rattle.tl_protocol.specs.Coherent.{byte_after, last_from, last, AreLast, LoadsLast}
use Rattle.tl_protocol.specs.Kept.{IsKeptAt, IsNewestAt, EveryRunKeepsCopies, EveryRunReadsLast}
use Rattle.tl_protocol.specs.Sizes.{IsWholeAt, EveryRunKeepsSizes}
use Rattle.tl_protocol.proofs.Sizes.{HomeIsWhole, step_whole, copy_whole, c_whole, d_whole}
use Rattle.tl_protocol.proofs.Talk.{held_talk}
use Rattle.tl_protocol.proofs.Clients.{fresh, tip_is}
use Rattle.tl_protocol.proofs.Invariant.{ClientIs, HomeIs, Invariant}
use Rattle.tl_protocol.proofs.Messages.{rank_none, bytes_now}
use Rattle.tl_protocol.proofs.Steps.{now_after, step}
use Rattle.tl_protocol.proofs.Values.{IsNow, image_now, event_now, other_now, load_now}
use Rattle.tl_protocol.proofs.Runs.{cond_at, run_split}

-- ## The whole state

-- a block is right and whole, and the bytes last stored in it are those that the events before say
pub record Kept (shape : Shape) (byte : ℕ → ℕ) (block : ℕ) (s : Block) : Type 0 where
  pub now : List ℕ
  pub inv : Invariant shape now s
  pub is_now : IsNow shape.block_bytes byte (block * shape.block_bytes) now
  pub whole : HomeIsWhole shape.block_bytes s

-- every block is right
abbrev pub AllKept : Shape → (ℕ → ℕ) → (ℕ → Block) → Type 0
AllKept shape byte s = (block : ℕ) → Kept shape byte block (s block)

-- at reset a block is right
pub reset_inv : (shape : Shape) (bytes : List ℕ) → Invariant shape bytes (reset bytes)
reset_inv shape bytes = record {
  outside = λ x n. refl;
  local = λ x. fresh bytes;
  service = record {
    served = λ x p. ⊎_elim (λ (g : false ≡ true). absurd (cc)) (λ (l : 0 < 0). absurd (omega arith)) p;
    no_probe = λ x y p. (refl, refl);
    waits = λ x is. absurd is;
    room = λ acquire none. cc;
  };
  alone = λ x y n t. refl;
  home = ((λ x. refl), refl);
}

-- at reset every block is right
pub reset_kept : (shape : Shape) (image : List ℕ) → AllKept shape (slice_index image) (at_reset shape image)
reset_kept shape image block =
    let from : ℕ = block * shape.block_bytes in
    let now : List ℕ = image_bytes image from shape.block_bytes in
    let is_now : IsNow shape.block_bytes (slice_index image) from now = image_now image shape.block_bytes from in
    record { now = now; inv = reset_inv shape now; is_now = is_now; whole = (is_now.long, tt, tt) }

-- a permitted event keeps every block right
pub step_kept :
    (shape : Shape) (byte : ℕ → ℕ) (s : ℕ → Block) (e : Event) → MayNext shape s e → AllKept shape byte s
    → AllKept shape (λ a. byte_after e a (byte a)) (after_next shape s e)
step_kept shape byte s e permitted kept block =
    let k : Kept shape byte block (s block) = kept block in
    cond_at (λ (t : Block). Kept shape (λ a. byte_after e a (byte a)) block t) (block == block_of shape e)
    (after shape (s block) e) (s block)
    (λ q. let same : block ≡ block_of shape e = eqb-true block (block_of shape e) q in
    let may : May shape (s block) e = subst (λ (b : ℕ). May shape (s b) e) (sym same) permitted in
    record {
      now = now_after shape k.now e;
      inv = step shape k.now (s block) e may k.inv;
      is_now = event_now shape byte block k.now (s block) e may same k.is_now;
      whole = step_whole shape.block_bytes shape k.now (s block) e k.is_now.long may.1 k.inv k.whole;
    })
    (λ q. record {
      now = k.now;
      inv = k.inv;
      is_now = other_now shape byte block k.now (s (block_of shape e)) e permitted (eqb-false block (block_of shape e) q) k.is_now;
      whole = k.whole;
    })

-- a run keeps every block right
pub run_kept :
    (shape : Shape) (byte : ℕ → ℕ) (s : ℕ → Block) (events : List Event) → AllKept shape byte s → IsRunFrom shape s events
    → AllKept shape (λ a. last_from (byte a) events a) (end_from shape s events)
run_kept shape byte s [] kept run = kept
run_kept shape byte s (e ∷ es) kept run =
    run_kept shape (λ a. byte_after e a (byte a)) (after_next shape s e) es (step_kept shape byte s e run.0 kept) run.1

-- ## What that says of a block

-- a client holds nothing where home records None
pub none_held : (now : List ℕ) (k : Client) → ClientIs now k → k.recorded ≡ p_None → perm_of k.held ≡ p_None
none_held now k holds e =
    rank_none (perm_of k.held)
    (omega (arith, ap rank e, held_talk now k.held k.wait k.recorded k.b k.c k.d holds.talk))

-- home has a copy of a block of which somebody is recorded
pub home_there :
    (now memory : List ℕ) (home : Option Line) (outward : Outward) (client : ℕ → Client) (x : ℕ)
    → (client x).recorded ≢ p_None → HomeIs now memory home outward client → (line : Line) × (home ≡ Some line)
home_there now memory None outward client x n h = absurd (n (h.0 x))
home_there now memory (Some line) outward client x n h = (line, refl)

-- in a block that is right one writes or several read, and home knows it
pub kept_at : (shape : Shape) (byte : ℕ → ℕ) (block : ℕ) (s : Block) → Kept shape byte block s → IsKeptAt s
kept_at shape byte block s k =
    let holds : Invariant shape k.now s = k.inv in
    record {
      alone = λ x y n t. none_held k.now (s.client y) (holds.local y)
          (holds.alone x y n (tip_is k.now (s.client x) t (holds.local x)).1);
      recorded = λ x. let c : Client = s.client x in held_talk k.now c.held c.wait c.recorded c.b c.c c.d (holds.local x).talk;
      at_home = λ x n. home_there k.now s.memory s.home s.outward s.client x
          (λ e. n (none_held k.now (s.client x) (holds.local x) e)) holds.home;
    }

-- in a block that is right every copy has the bytes last stored
pub newest_at :
    (shape : Shape) (image : List ℕ) (events : List Event) (block : ℕ) (s : Block)
    → Kept shape (λ a. last image events a) block s → IsNewestAt shape image events block s
newest_at shape image events block s k =
    let holds : Invariant shape k.now s = k.inv in
    record {
      sized = λ x n. ap length (bytes_now k.now (s.client x).held n (holds.local x).current) ∙ k.is_now.long;
      newest = λ x n. subst (λ (bytes : List ℕ). AreLast image events (block * shape.block_bytes) bytes)
          (sym (bytes_now k.now (s.client x).held n (holds.local x).current))
          (λ j l. k.is_now.each j (let long : length k.now ≡ shape.block_bytes = k.is_now.long in omega arith));
    }

-- in a block that is right all bytes are a whole block
pub whole_at : (shape : Shape) (byte : ℕ → ℕ) (block : ℕ) (s : Block) → Kept shape byte block s → IsWholeAt shape s
whole_at shape byte block s k =
    let holds : Invariant shape k.now s = k.inv in
    let size : ℕ = shape.block_bytes in
    let long : length k.now ≡ size = k.is_now.long in
    record {
      held = λ x. copy_whole size k.now (s.client x).held long (holds.local x).current;
      on_c = λ x. let c : Client = s.client x in c_whole size k.now c.held c.wait c.recorded c.b c.c c.d long (holds.local x).talk;
      on_d = λ x. let c : Client = s.client x in d_whole size k.now c.held c.wait c.recorded c.b c.c c.d long (holds.local x).talk;
      home = k.whole.1;
      outward = k.whole.2;
      memory = k.whole.0;
    }

-- what holds at the end of a run
pub end_kept :
    (shape : Shape) (image : List ℕ) (events : List Event) → IsRun shape image events
    → AllKept shape (λ a. last image events a) (end_of shape image events)
end_kept shape image events run =
    run_kept shape (slice_index image) (at_reset shape image) events (reset_kept shape image) run

-- a load in the end of a run got the bytes last stored
pub load_last :
    (shape : Shape) (image : List ℕ) (before : List Event) (access : Access)
    → IsRun shape image before → MayNext shape (end_of shape image before) (Load access)
    → AreLast image before access.address access.bytes
load_last shape image before access run may_next i l =
    let address : ℕ = access.address in
    let block : ℕ = address / shape.block_bytes in
    let s : Block = end_of shape image before block in
    let k : Kept shape (λ a. last image before a) block s =
    run_kept shape (slice_index image) (at_reset shape image) before (reset_kept shape image) run block in
    let may = may_next.1.1 in
    load_now shape (λ a. last image before a) address access.bytes k.now i may.0 k.is_now
    (subst (λ (own : List ℕ). ReadsAs own (address % shape.block_bytes) access.bytes)
    (bytes_now k.now (s.client access.client).held may.1 ((k.inv).local access.client).current) may.2) l

-- each load of a run got them
pub loads_last : (shape : Shape) (image : List ℕ) (events : List Event) → IsRun shape image events → LoadsLast image events
loads_last shape image events run before access rest e =
    let both = run_split shape (at_reset shape image) before (Load access ∷ rest)
    (subst (λ (es : List Event). IsRun shape image es) e run) in
    load_last shape image before access both.0 both.1.0

-- so it is in the end of every run
pub every_run_keeps_copies : EveryRunKeepsCopies
every_run_keeps_copies shape image events run block =
    kept_at shape (λ a. last image events a) block (end_of shape image events block) (end_kept shape image events run block)

-- and with the bytes of copies and loads
pub every_run_reads_last : EveryRunReadsLast
every_run_reads_last shape image events run = (
  (λ block. newest_at shape image events block (end_of shape image events block) (end_kept shape image events run block)),
  loads_last shape image events run,
)

-- and all bytes of each block are whole
pub every_run_keeps_sizes : EveryRunKeepsSizes
every_run_keeps_sizes shape image events run block =
    whole_at shape (λ a. last image events a) block (end_of shape image events block) (end_kept shape image events run block)
