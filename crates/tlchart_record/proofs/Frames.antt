-- A judge that takes entries, and what is shown of it.
use Rattle.std.proofs.Common.{◌≡◌, ◌≢◌, ℕ, ◌+◌, ◌<◌, Bool, List, [], ◌∷◌, ◌++◌, length, take, map, get_or, slice_get, Option, Some, Result, Ok, Err, OnOk, IfErr, is_ok, cond, if◌then◌else◌, refl, sym, ap, ◌∙◌, subst, inl, inr, string_bytes, vec_items}
use Rattle.std.specs.Prelude.{nat_lt}
use Rattle.std.specs.Option.{option_map}
use Rattle.std.proofs.lemmas.Bool.{cases_Bool, ltb-true, ne_eqb}
use Rattle.std.proofs.lemmas.List.{length-map, map-append, take_more}
use Rattle.std.proofs.lemmas.Option.{slice_get-map}
use Rattle.tl_protocol.specs.Protocol.{Block, after, block_of}
use Rattle.tl_protocol.specs.Runs.{end_of}
use Rattle.tl_protocol.specs.declared.event.Event.{Event}
use Rattle.tl_protocol.specs.declared.shape.Shape.{Shape}
use Rattle.tl_protocol.proofs.Runs.{runs_grow_by_one}
use Rattle.tl_rules.specs.Plain.{state_of_plain}
use Rattle.tlcheck_rules.specs.Judged.{Breaks, Follows, IsPermitted, JudgeState}
use Rattle.tlcheck_rules.specs.declared.entry.Entry.{Entry}
use Rattle.tlcheck_rules.specs.declared.judge.Breach.{Breach}
use Rattle.tlcheck_rules.specs.declared.judge.Refusal.{Refusal}
use Rattle.tlcheck_rules.specs.declared.judge.Refusal.TheVariants.{Broken, Memory}
use Rattle.tlcheck_rules.specs.declared.order.ChannelOrder.{ChannelOrder}
use Rattle.tlcheck_record.specs.State.{block_lines, state_lines}
use Rattle.tlcheck_record.specs.declared.header.Head.{Head}
use Rattle.tlchart_page.specs.Film.{changed}
use Rattle.tlchart_page.specs.declared.film.Change.{Change}
use Rattle.tlchart_record.specs.Film.{AreEntryFrames, Filmed, GoesOn, IsRecordFilm, IsShownBut, IsSomewhere, Plays, block_shown, blocks_shown, entries_of, is_settled, shown_after}
use Rattle.tlchart_record.specs.declared.film.RecordFilm.{RecordFilm}
use Rattle.tlchart_record.specs.declared.window.Written.{Written}

-- ## A judge takes an entry

-- one that is permitted
plays-on : (entry : Entry) (old new : JudgeState)
    → ((order : ChannelOrder) (shape : Shape) (image : List ℕ) (log : List Event) → Follows order shape image log old
    → IsPermitted order shape image log entry × Follows order shape image (log ++ entry.event ∷ []) new)
    → Plays entry old new
plays-on entry old new took = λ head image log f.
    let h = took head.order head.shape image log f in (log ++ entry.event ∷ [], inl (h.0, refl), h.1)

-- one that breaks something
plays-back : (entry : Entry) (old new : JudgeState) (breach : Breach)
    → ((order : ChannelOrder) (shape : Shape) (image : List ℕ) (log : List Event) → Follows order shape image log old
    → Breaks order shape image log entry breach)
    → new ≡ old → Plays entry old new
plays-back entry old new breach broke same = λ head image log f.
    (log, inr (breach, broke head.order head.shape image log f, refl), subst (λ (judge : JudgeState). Follows head.order head.shape image log judge) (sym same) f)

-- either, where there was memory
pub plays : {A : Type 0} (entry : Entry) (old new : JudgeState) (done : Result (Unit {0}) Refusal) (settled : Result (Unit {0}) A)
    → is_ok settled ≡ is_settled done
    → OnOk done
    ((order : ChannelOrder) (shape : Shape) (image : List ℕ) (log : List Event) → Follows order shape image log old
    → IsPermitted order shape image log entry × Follows order shape image (log ++ entry.event ∷ []) new)
    → IfErr done
    (λ refusal. (breach : Breach) → refusal ≡ Broken breach → (order : ChannelOrder) (shape : Shape) (image : List ℕ) (log : List Event)
    → Follows order shape image log old → Breaks order shape image log entry breach)
    → IfErr done (λ refusal. (breach : Breach) → refusal ≡ Broken breach → new ≡ old)
    → OnOk settled (Plays entry old new)
plays entry old new (Ok u) (Ok w) is ok broken same = plays-on entry old new ok
plays entry old new (Ok u) (Err error) is ok broken same = tt
plays entry old new (Err (Broken breach)) (Ok w) is ok broken same =
    plays-back entry old new breach (broken breach refl) (same breach refl)
plays entry old new (Err (Broken breach)) (Err error) is ok broken same = tt
plays entry old new (Err Memory) (Ok w) is ok broken same = cc
plays entry old new (Err Memory) (Err error) is ok broken same = tt

-- ## A judge shows what its log leads to

-- of a block
lines-follow : (head : Head) (image : List ℕ) (log : List Event) (judge : JudgeState) → Follows head.order head.shape image log judge → (block : ℕ)
    → state_lines judge.plain block ≡ block_shown head.shape image log block
lines-follow head image log judge f block =
    ap (λ (s : Shape). if nat_lt block s.blocks then block_lines s block (state_of_plain judge.plain block) else []) f.same_shape
    ∙ elim (cases_Bool (nat_lt block head.shape.blocks)) [
      | inl is ↦
          let here : state_of_plain judge.plain block ≡ end_of head.shape image log block =
          sym (f.ended block (ltb-true block head.shape.blocks is)) in
          ap (λ (s : Block). if nat_lt block head.shape.blocks then block_lines head.shape block s else []) here
      | inr fails ↦
          ap (λ (t : Bool). cond t (block_lines head.shape block (state_of_plain judge.plain block)) []) fails
          ∙ sym (ap (λ (t : Bool). cond t (block_lines head.shape block (end_of head.shape image log block)) []) fails)
    ]

-- of some
pub shown-follow : (head : Head) (image : List ℕ) (log : List Event) (judge : JudgeState) → Follows head.order head.shape image log judge
    → (blocks : List ℕ) → blocks_shown judge.plain blocks ≡ shown_after head.shape image log blocks
shown-follow head image log judge f [] = refl
shown-follow head image log judge f (block ∷ blocks) =
    ap (λ (t : List ℕ). t ∷ blocks_shown judge.plain blocks) (lines-follow head image log judge f block)
    ∙ ap (λ (ts : List (List ℕ)). block_shown head.shape image log block ∷ ts) (shown-follow head image log judge f blocks)

-- ## An entry of another block

-- one more event leaves another block as it was
end-other : (shape : Shape) (image : List ℕ) (log : List Event) (e : Event) (block : ℕ) → block ≢ block_of shape e
    → end_of shape image (log ++ e ∷ []) block ≡ end_of shape image log block
end-other shape image log e block ne =
    ap (λ (t : ℕ → Block). t block) ((runs_grow_by_one shape image).2 log e).1
    ∙ ap (λ (t : Bool). cond t (after shape (end_of shape image log block) e) (end_of shape image log block))
    (ne_eqb block (block_of shape e) ne)

-- it shows what it showed
block-other : (head : Head) (image : List ℕ) (log next : List Event) (entry : Entry) → GoesOn head image log entry next → (block : ℕ)
    → block ≢ block_of head.shape entry.event → block_shown head.shape image next block ≡ block_shown head.shape image log block
block-other head image log next entry (inl goes) block ne =
    ap (λ (es : List Event). block_shown head.shape image es block) goes.1
    ∙ ap (λ (s : Block). if nat_lt block head.shape.blocks then block_lines head.shape block s else []) (end-other head.shape image log entry.event block ne)
block-other head image log next entry (inr stays) block ne = ap (λ (es : List Event). block_shown head.shape image es block) stays.2

-- as the judge has it
lines-other : (entry : Entry) (old new : JudgeState) → IsSomewhere old → Plays entry old new → (block : ℕ)
    → block ≢ block_of old.plain.shape entry.event → state_lines new.plain block ≡ state_lines old.plain block
lines-other entry old new at plays block ne =
    let played = plays at.head at.image at.log at.follows in
    let other : block ≢ block_of at.head.shape entry.event =
    λ e. ne (e ∙ ap (λ (s : Shape). block_of s entry.event) (sym at.follows.same_shape)) in
    lines-follow at.head at.image played.0 new played.2 block
    ∙ block-other at.head at.image at.log played.0 entry played.1 block other
    ∙ sym (lines-follow at.head at.image at.log old at.follows block)

-- so a state that shows what all blocks showed shows what they show now, but for the entry's
pub shown-but : (entry : Entry) (old new : JudgeState) (block : ℕ) (blocks : List ℕ) (state : List (List ℕ)) → IsSomewhere old
    → Plays entry old new → block ≡ block_of old.plain.shape entry.event → state ≡ blocks_shown old.plain blocks
    → IsShownBut new.plain blocks block state
shown-but entry old new block blocks state at plays of shows = record {
  size = ap length shows ∙ length-map blocks (state_lines old.plain);
  shown = λ place other found ne.
      ap (λ (xs : List (List ℕ)). slice_get xs place) shows ∙ slice_get-map (state_lines old.plain) blocks place
      ∙ ap (λ (o : Option ℕ). option_map (state_lines old.plain) o) found
      ∙ ap (λ (t : List ℕ). Some t) (sym (lines-other entry old new at plays other (λ e. ne (e ∙ sym of))));
}

-- the judge is somewhere then
pub somewhere-next : (entry : Entry) (old new : JudgeState) → IsSomewhere old → Plays entry old new → IsSomewhere new
somewhere-next entry old new at plays =
    let played = plays at.head at.image at.log at.follows in
    record { head = at.head; image = at.image; log = played.0; follows = played.2 }

-- ## One more entry

-- one more entry after some that were filmed is filmed with them
frames-push : (head : Head) (image blocks : List ℕ) (log mid last : List Event) (entries : List Entry) (frames : List (List Change))
    (entry : Entry) (changes : List Change)
    → AreEntryFrames head image blocks log entries frames mid → GoesOn head image mid entry last
    → changed (shown_after head.shape image mid blocks) changes ≡ shown_after head.shape image last blocks
    → AreEntryFrames head image blocks log (entries ++ entry ∷ []) (frames ++ changes ∷ []) last
frames-push head image blocks log mid last [] [] entry changes h goes shows = (
  last,
  subst (λ (es : List Event). GoesOn head image es entry last) h goes,
  subst (λ (es : List Event). changed (shown_after head.shape image es blocks) changes ≡ shown_after head.shape image last blocks) h shows,
  refl,
)
frames-push head image blocks log mid last [] (c ∷ frames) entry changes h goes shows = absurd h
frames-push head image blocks log mid last (e ∷ entries) [] entry changes h goes shows = absurd h
frames-push head image blocks log mid last (e ∷ entries) (c ∷ frames) entry changes h goes shows =
    (h.0, h.1, h.2, frames-push head image blocks h.0 mid last entries frames entry changes h.3 goes shows)

-- none was filmed
pub filmed-none : (judge : JudgeState) (blocks : List ℕ) (frames : List (List Change)) → frames ≡ [] → Filmed judge judge blocks [] frames
filmed-none judge blocks [] none = λ head image log f. (log, refl, f)
filmed-none judge blocks (c ∷ frames) none = cc

-- one more was
filmed-push : (first old new : JudgeState) (blocks : List ℕ) (entries : List Entry) (frames : List (List Change)) (entry : Entry)
    (changes : List Change)
    → Filmed first old blocks entries frames → Plays entry old new
    → changed (blocks_shown old.plain blocks) changes ≡ blocks_shown new.plain blocks
    → Filmed first new blocks (entries ++ entry ∷ []) (frames ++ changes ∷ [])
filmed-push first old new blocks entries frames entry changes so_far plays shows = λ head image log f.
    let before = so_far head image log f in
    let played = plays head image before.0 before.2 in
    let is : changed (shown_after head.shape image before.0 blocks) changes ≡ shown_after head.shape image played.0 blocks =
    ap (λ (s : List (List ℕ)). changed s changes) (sym (shown-follow head image before.0 old before.2 blocks))
    ∙ shows ∙ shown-follow head image played.0 new played.2 blocks in
    (played.0, frames-push head image blocks log before.0 played.0 entries frames entry changes before.1 played.1 is, played.2)

-- one more of those that are filmed
pub filmed-more : (first old new : JudgeState) (blocks : List ℕ) (entries : List Written) (i : ℕ) (written : Written)
    (frames more : List (List Change)) (changes : List Change)
    → i < length entries → written ≡ get_or entries i written → more ≡ frames ++ changes ∷ []
    → Filmed first old blocks (entries_of (take i entries)) frames → Plays written.entry old new
    → changed (blocks_shown old.plain blocks) changes ≡ blocks_shown new.plain blocks
    → Filmed first new blocks (entries_of (take (i + 1) entries)) more
filmed-more first old new blocks entries i written frames more changes lt at is so_far plays shows =
    let taken : entries_of (take (i + 1) entries) ≡ entries_of (take i entries) ++ written.entry ∷ [] =
    ap entries_of (take_more entries i written lt ∙ ap (λ (w : Written). take i entries ++ w ∷ []) (sym at))
    ∙ map-append (λ (w : Written). w.entry) (take i entries) (written ∷ []) in
    subst (λ (es : List Entry). Filmed first new blocks es more) (sym taken)
    (subst (λ (cs : List (List Change)). Filmed first new blocks (entries_of (take i entries) ++ written.entry ∷ []) cs) (sym is)
    (filmed-push first old new blocks (entries_of (take i entries)) frames written.entry changes so_far plays shows))

-- all were
pub filmed-all : (first last : JudgeState) (blocks : List ℕ) (entries : List Entry) (film : RecordFilm)
    → map string_bytes film.start.items ≡ blocks_shown first.plain blocks
    → Filmed first last blocks entries (map vec_items film.changes.items)
    → (head : Head) (image : List ℕ) (log : List Event) → Follows head.order head.shape image log first → IsRecordFilm head image log blocks entries film
filmed-all first last blocks entries film start filmed = λ head image log f.
    let r = filmed head image log f in
    record { last = r.0; start = start ∙ shown-follow head image log first f blocks; frames = r.1 }
