-- What is said of a record, of its own shape, image and lines.
use Rattle.std.proofs.Common.{◌≡◌, ℕ, Bool, List, Result, Ok, Err, IfOk, IsTrue, ap, subst, ◌∙◌}
use Rattle.tl_protocol.specs.Runs.{IsRun, at_reset}
use Rattle.tl_protocol.specs.declared.event.Event.{Event}
use Rattle.tl_protocol.specs.declared.shape.Shape.{Shape}
use Rattle.tlwire_search.specs.Explained.{Explains}
use Rattle.tlwire_search.specs.declared.seen.Seen.{Seen}
use Rattle.tlwire_pins.specs.Pins.{KeepsOrder, lines_from}
use Rattle.tlwire_pins.specs.declared.view.Cores.{Cores}
use Rattle.tlwire_closed.specs.Along.{IsSeenSo}
use Rattle.tlwire_closed.specs.declared.premise.Premise.{Premise as SetPremise}
use Rattle.tlwire_search.specs.declared.way.Way.{Way}
use Rattle.tlwire_search.specs.declared.way.Way.TheVariants.{Between, AtHome, AtClients, AtClient}
use Rattle.tlwire_record.specs.Messages.{MessagesState}
use Rattle.tlwire_answer.specs.Answer.{ClientKeepsOrder, EachKeepsOrder, IsExplained, IsInOrder, Meets}
use Rattle.tlwire_answer.specs.Named.{premise_of}
use Rattle.tlwire_pins.specs.Taps.{cores_of}

-- of a client
pub keeps_then : {E : Type 0} (r : Result Bool E) (m : MessagesState) (cores : Cores) (shape : Shape) (lines seen : List Seen) (client : ℕ)
    → cores ≡ cores_of m.setting.premises client → shape ≡ m.setting.shape → seen ≡ m.seen
    → IfOk r (λ (yes : Bool). IsTrue yes → KeepsOrder cores shape client lines seen)
    → IfOk r (λ (yes : Bool). IsTrue yes → ClientKeepsOrder m lines client)
keeps_then (Ok kept) m cores shape lines seen client k s e h =
    λ t told. subst (λ (xs : List Seen). KeepsOrder (cores_of m.setting.premises client) m.setting.shape client lines xs) e
    (subst (λ (sh : Shape). KeepsOrder (cores_of m.setting.premises client) sh client lines seen) s
    (subst (λ (x : Cores). KeepsOrder x shape client lines seen) k (h t)))
keeps_then (Err x) m cores shape lines seen client k s e h = tt

-- of each
pub in_order : (m : MessagesState) (run : List Event) (shape : Shape) (image : List ℕ) (lines given : List Seen) → shape ≡ m.setting.shape → image ≡ m.image
    → lines ≡ lines_from shape (at_reset shape image) run → given ≡ lines → EachKeepsOrder m given → IsInOrder m run
in_order m run shape image lines given s i l g k =
    subst (λ (xs : List Seen). EachKeepsOrder m xs)
    (g ∙ (l ∙ (ap (λ (sh : Shape). lines_from sh (at_reset sh image) run) s
    ∙ ap (λ (im : List ℕ). lines_from m.setting.shape (at_reset m.setting.shape im) run) i))) k

pub in_order_then : {E : Type 0} (r : Result Bool E) (m : MessagesState) (run : List Event) (shape : Shape) (image : List ℕ) (lines given : List Seen)
    → shape ≡ m.setting.shape → image ≡ m.image → lines ≡ lines_from shape (at_reset shape image) run → given ≡ lines
    → IfOk r (λ (yes : Bool). IsTrue yes → EachKeepsOrder m given) → IfOk r (λ (yes : Bool). IsTrue yes → IsInOrder m run)
in_order_then (Ok kept) m run shape image lines given s i l g h = λ t. in_order m run shape image lines given s i l g (h t)
in_order_then (Err x) m run shape image lines given s i l g h = tt

-- a run is seen so in a way, where it is under what the header says
pub meets_then : {E : Type 0} (r : Result Bool E) (m : MessagesState) (run : List Event) (way : Way) (shape : Shape) (premise : SetPremise) (image : List ℕ) (seen : List Seen)
    → shape ≡ m.setting.shape → premise ≡ premise_of m.setting.premises way → image ≡ m.image → seen ≡ m.seen
    → IfOk r (λ (yes : Bool). IsTrue yes → IsRun shape image run → IsSeenSo shape premise image seen run)
    → IfOk r (λ (yes : Bool). IsTrue yes → IsRun m.setting.shape m.image run → Meets m run way)
meets_then (Ok found) m run way shape premise image seen s p i e h = λ t lawful named.
    subst (λ (x : List Seen). IsSeenSo m.setting.shape (premise_of m.setting.premises way) m.image x run) e
    (subst (λ (x : SetPremise). IsSeenSo m.setting.shape x m.image seen run) p
    (subst (λ (x : List ℕ). IsRun m.setting.shape x run → IsSeenSo m.setting.shape premise x seen run) i
    (subst (λ (x : Shape). IsRun x image run → IsSeenSo x premise image seen run) s (h t)) lawful))
meets_then (Err x) m run way shape premise image seen s p i e h = tt

-- and in each way
pub each_way : (m : MessagesState) (run : List Event) → Meets m run Between → Meets m run AtHome → Meets m run AtClients
    → ((client : ℕ) → Meets m run (AtClient client)) → (way : Way) → Meets m run way
each_way m run between home clients each Between = between
each_way m run between home clients each AtHome = home
each_way m run between home clients each AtClients = clients
each_way m run between home clients each (AtClient client) = each client

-- so it explains the record
pub explained_then : (m : MessagesState) (run given : List Event) → given ≡ run → Explains m.setting.premises m.setting.shape m.image m.seen run
    → (IsRun m.setting.shape m.image given → IsInOrder m given × ((way : Way) → Meets m given way)) → IsExplained m run
explained_then m run given is wires told =
    let both = subst (λ (es : List Event). IsRun m.setting.shape m.image es → IsInOrder m es × ((way : Way) → Meets m es way)) is told wires.lawful in
    record { wires = wires; pins = both.0; ways = both.1 }
