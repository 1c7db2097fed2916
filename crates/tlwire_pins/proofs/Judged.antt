-- What a judge at a client's pins knows after one line more.
use Rattle.std.proofs.Common.{◌≡◌, ℕ, List, [], ◌∷◌, ◌++◌, Option, Some, None, Result, Ok, Err, IfOk, IfSome, ap, subst, ◌∙◌}
use Rattle.tl_protocol.specs.declared.shape.Shape.{Shape}
use Rattle.tlwire_search.specs.declared.seen.Seen.{Seen}
use Rattle.tlwire_pins.proofs.Walk.{Walked, is_impossible, walked_more}
use Rattle.tlwire_pins.specs.Judged.{Breaks, Follows, held_in}
use Rattle.tlwire_pins.specs.Pins.{own}
use Rattle.tlwire_pins.specs.View.{MayLine, before_line, fresh, keeps, led_by}
use Rattle.tlwire_pins.specs.Walk.{BreaksNext, Steps}
use Rattle.tlwire_pins.specs.declared.judge.PinsJudge.{PinsJudge}
use Rattle.tlwire_pins.specs.declared.view.Cores.{Cores}
use Rattle.tlwire_pins.specs.declared.view.View.{View}
use Rattle.tlwire_pins.specs.declared.views.Broken.{Broken}

-- ## What holds of a value, where there is one

pub ok_map : {T E : Type 0} (r : Result T E) (P Q : T → Type 0) → ((t : T) → P t → Q t) → IfOk r P → IfOk r Q
ok_map (Ok t) P Q f h = f t h
ok_map (Err e) P Q f h = tt

pub some_map : {T : Type 0} (o : Option T) (P Q : T → Type 0) → ((t : T) → P t → Q t) → IfSome o P → IfSome o Q
some_map (Some t) P Q f h = f t h
some_map None P Q f h = tt

-- ## One line

-- what holds of the judge's client holds of this one
at_client : (P : Cores → Shape → ℕ → Type 0) (cores : Cores) (shape : Shape) (c : ℕ) (lines : List Seen) (j : PinsJudge)
    → Follows cores shape c lines j → P j.cores j.shape j.client → P cores shape c
at_client P cores shape c lines j f p =
    subst (λ (x : ℕ). P cores shape x) f.same_client
    (subst (λ (s : Shape). P cores s j.client) f.same_shape (subst (λ (k : Cores). P k j.shape j.client) f.same_cores p))

-- a line that may be seen next
pub follows_more : (x : Seen) (old new : PinsJudge) → (new.cores ≡ old.cores) × (new.shape ≡ old.shape) × (new.client ≡ old.client)
    → Steps (keeps old.cores) old.shape old.client x (held_in old.views) (held_in new.views) → (cores : Cores) (shape : Shape) (c : ℕ)
    (lines : List Seen) → Follows cores shape c lines old → Follows cores shape c (lines ++ x ∷ []) new
follows_more x old new same steps cores shape c lines f =
    let before : Walked (keeps cores) shape c lines (held_in old.views) = record { led = f.led; may = f.may } in
    let now : Walked (keeps cores) shape c (lines ++ x ∷ []) (held_in new.views) =
    walked_more (keeps cores) shape c lines x (held_in old.views) (held_in new.views) before
    (at_client (λ k s y. Steps (keeps k) s y x (held_in old.views) (held_in new.views)) cores shape c lines old f steps) in
    record {
      same_cores = same.0 ∙ f.same_cores;
      same_shape = same.1 ∙ f.same_shape;
      same_client = same.2 ∙ f.same_client;
      may = now.may;
      led = now.led;
    }

-- one that may not
pub breaks_now : (x : Seen) (old : PinsJudge) (b : Broken) → BreaksNext (keeps old.cores) old.shape old.client x (held_in old.views) b
    → (cores : Cores) (shape : Shape) (c : ℕ) (lines : List Seen) → Follows cores shape c lines old → Breaks cores shape c lines x b
breaks_now x old b breaks cores shape c lines f =
    let now : BreaksNext (keeps cores) shape c x (held_in old.views) b =
    at_client (λ k s y. BreaksNext (keeps k) s y x (held_in old.views) b) cores shape c lines old f breaks in
    let led : b.view ≡ before_line (keeps cores) (led_by (keeps cores) shape fresh (own shape c b.block lines)) x =
    now.held ∙ ap (λ (v : View). before_line (keeps cores) v x) (f.led b.block) in
    record {
      own_line = now.own_line;
      led = led;
      breaks = now.breaks;
      impossible = λ later.
          is_impossible (keeps cores) shape c b.block lines later x now.own_line (subst (λ (v : View). ¬ MayLine shape v x) led now.may_not);
    }
