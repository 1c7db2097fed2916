-- What home has recorded is what the clients hold, and what is under way.
use Rattle.std.proofs.Common.{◌≡◌, ℕ, zero, suc, ◌+◌, Bool, true, false, List, [], ◌∷◌, Option, Some, None, refl, ap, arith, sym, not, ◌||◌, ◌<◌, ◌∙◌}
use Rattle.tl_types.specs.Permission.{grant_perm}
use Rattle.tl_types.specs.Message.{upward_to}
use Rattle.tl_types.specs.Bodies.{upward_from}
use Rattle.tl_types.specs.declared.permission.ProbeCap.{ProbeCap}
use Rattle.tl_types.specs.declared.message.ProbeAnswer.{ProbeAnswer}
use Rattle.tl_types.specs.declared.message.ProbeAnswer.TheVariants.{TtoB as a_TtoB, TtoN as a_TtoN, BtoB as a_BtoB, BtoN as a_BtoN, NtoN as a_NtoN}
use Rattle.tl_types.specs.declared.message.Surrender.{Surrender}
use Rattle.tl_types.specs.declared.message.Surrender.TheVariants.{TtoB as s_TtoB, TtoN as s_TtoN, BtoN as s_BtoN}
use Rattle.tl_types.specs.declared.permission.Perm.{Perm}
use Rattle.tl_types.specs.declared.permission.GrantCap.{GrantCap}
use Rattle.tl_types.specs.declared.permission.GrantCap.TheVariants.{ToB, ToT}
use Rattle.tl_protocol.specs.Runs.{end_of}
use Rattle.tl_protocol.specs.Coherent.{last}
use Rattle.tl_protocol.specs.Ledger.{IsSilent, LedgerAddsUp, has_copy, is_recorded, has_grant_data, gives_up, is_under_way, one_if, count_clients, count_pairs, EveryLedgerAddsUp}
use Rattle.tl_protocol.specs.declared.shape.Shape.{Shape}
use Rattle.tl_protocol.specs.Protocol.{Block, is_none}
use Rattle.tl_protocol.specs.declared.copy.CachedCopy.{CachedCopy}
use Rattle.tl_types.specs.declared.wait.Awaited.{Awaited}
use Rattle.tl_types.specs.declared.message.Upward.{Upward}
use Rattle.tl_types.specs.declared.message.Upward.TheVariants.{ProbeAck, Release}
use Rattle.tl_types.specs.declared.message.Downward.{Downward}
use Rattle.tl_types.specs.declared.message.Downward.TheVariants.{Grant, ReleaseAck}
use Rattle.tl_protocol.specs.declared.client.Client.{Client}
use Rattle.tl_protocol.specs.Copy.{perm_of}
use Rattle.tl_protocol.proofs.Invariant.{IsSent, Heard, Talk, ClientIs}
use Rattle.tl_protocol.proofs.Messages.{release_not_none}
use Rattle.tl_protocol.proofs.Coherent.{Kept, AllKept, end_kept}

-- what counts as a copy
abbrev weight : Perm → ℕ
weight p = one_if (not (is_none p))

-- one message counts just where it gives a copy up
message_weight :
    (message : Upward) → weight (upward_from message) ≡ weight (upward_to message) + one_if (gives_up (message ∷ []))
message_weight (ProbeAck (a_TtoB bytes)) = refl
message_weight (ProbeAck (a_TtoN bytes)) = refl
message_weight (ProbeAck a_BtoB) = refl
message_weight (ProbeAck a_BtoN) = refl
message_weight (ProbeAck a_NtoN) = refl
message_weight (Release (s_TtoB bytes)) = refl
message_weight (Release (s_TtoN bytes)) = refl
message_weight (Release s_BtoN) = refl

-- and so do an answer to a Probe and a Release after it, of which the Release gives the copy up
two_weight :
    (answer : ProbeAnswer) (given : Surrender) → upward_to (ProbeAck answer) ≡ upward_from (Release given)
    → weight (upward_from (ProbeAck answer))
    ≡ weight (upward_to (Release given)) + one_if (gives_up (ProbeAck answer ∷ Release given ∷ []))
two_weight (a_TtoB bytes) given e = ap weight e ∙ message_weight (Release given)
two_weight (a_TtoN bytes) given e = absurd (release_not_none given (sym e))
two_weight a_BtoB given e = ap weight e ∙ message_weight (Release given)
two_weight a_BtoN given e = absurd (release_not_none given (sym e))
two_weight a_NtoN given e = absurd (release_not_none given (sym e))

-- what is recorded is what is held and what is given up on C
heard_weight :
    (now : List ℕ) (held : CachedCopy) (wait : Awaited) (recorded : Perm) (b : List ProbeCap) (c : List Upward)
    → Heard now held wait recorded b c → weight recorded ≡ weight (perm_of held) + one_if (gives_up c)
heard_weight now held wait recorded b [] talk = omega (arith, ap weight talk.1)
heard_weight now held wait recorded b (ProbeAck answer ∷ []) talk =
    omega (arith, ap weight talk.2.0, ap weight talk.2.1, message_weight (ProbeAck answer))
heard_weight now held wait recorded b (Release given ∷ []) talk =
    omega (arith, ap weight talk.1.0, ap weight talk.1.1, message_weight (Release given))
heard_weight now held wait recorded b (ProbeAck answer ∷ Release given ∷ []) talk =
    omega (arith, ap weight talk.2.0, ap weight talk.3, two_weight answer given talk.2.1)
heard_weight now held wait recorded b (x ∷ rest) talk = absurd talk

-- a Grant with data brings a copy, one without data none
sent_weight :
    (now : List ℕ) (held : CachedCopy) (cap : GrantCap) (bytes : Option (List ℕ)) → IsSent bytes now held
    → weight (grant_perm cap) ≡ weight (perm_of held) + one_if (has_grant_data (Grant cap bytes ∷ []))
sent_weight now held ToB None sent = omega (arith, ap (λ (k : CachedCopy). weight (perm_of k)) sent)
sent_weight now held ToT None sent = omega (arith, ap (λ (k : CachedCopy). weight (perm_of k)) sent)
sent_weight now held ToB (Some bytes) sent = omega (arith, ap (λ (k : CachedCopy). weight (perm_of k)) sent.0)
sent_weight now held ToT (Some bytes) sent = omega (arith, ap (λ (k : CachedCopy). weight (perm_of k)) sent.0)

-- with nothing on C nothing is given up
none_given : (other : Bool) (c : List Upward) → c ≡ [] → one_if (other || gives_up c) ≡ one_if other
none_given true c e = refl
none_given false c e = ap (λ (u : List Upward). one_if (gives_up u)) e

-- what is recorded is what is held and what is under way
talk_weight :
    (now : List ℕ) (held : CachedCopy) (wait : Awaited) (recorded : Perm) (b : List ProbeCap) (c : List Upward) (d : List Downward)
    → Talk now held wait recorded b c d → weight recorded ≡ weight (perm_of held) + one_if (has_grant_data d || gives_up c)
talk_weight now held wait recorded b c [] talk = heard_weight now held wait recorded b c talk
talk_weight now held wait recorded b c (Grant cap bytes ∷ []) talk =
    omega (arith, ap weight talk.3, sent_weight now held cap bytes talk.4, none_given (has_grant_data (Grant cap bytes ∷ [])) c talk.0)
talk_weight now held wait recorded b c (ReleaseAck ∷ []) talk = omega (arith, ap weight talk.2, none_given false c talk.0)
talk_weight now held wait recorded b c (x ∷ y ∷ rest) talk = absurd talk

-- so it is for one client
client_weight :
    (now : List ℕ) (k : Client) → ClientIs now k
    → one_if (is_recorded k) ≡ one_if (has_copy k) + one_if (is_under_way k)
client_weight now k holds = talk_weight now k.held k.wait k.recorded k.b k.c k.d holds.talk

-- for the first clients
clients_weight :
    (now : List ℕ) (n : ℕ) (client : ℕ → Client) → ((x : ℕ) → ClientIs now (client x))
    → count_clients is_recorded n client ≡ count_clients has_copy n client + count_clients is_under_way n client
clients_weight now zero client holds = refl
clients_weight now (suc n) client holds =
    let first = client_weight now (client n) (holds n) in
    let rest = clients_weight now n client holds in
    omega arith

-- for all clients and these blocks
pairs_weight :
    (shape : Shape) (byte : ℕ → ℕ) (s : ℕ → Block) (blocks : List ℕ) → AllKept shape byte s
    → count_pairs is_recorded shape s blocks
    ≡ count_pairs has_copy shape s blocks + count_pairs is_under_way shape s blocks
pairs_weight shape byte s [] kept = refl
pairs_weight shape byte s (block ∷ rest) kept =
    let k : Kept shape byte block (s block) = kept block in
    let first = clients_weight k.now shape.clients (s block).client (k.inv).local in
    let more = pairs_weight shape byte s rest kept in
    omega arith

-- where C and D are empty nothing is under way
silent_clients :
    (n : ℕ) (client : ℕ → Client) → ((x : ℕ) → x < n → ((client x).c ≡ []) × ((client x).d ≡ []))
    → count_clients is_under_way n client ≡ 0
silent_clients zero client quiet = refl
silent_clients (suc n) client quiet =
    let none = quiet n (omega arith) in
    let first : one_if (is_under_way (client n)) ≡ 0 =
    none_given (has_grant_data (client n).d) (client n).c none.0
    ∙ ap (λ (d : List Downward). one_if (has_grant_data d)) none.1 in
    let rest = silent_clients n client (λ x l. quiet x (omega arith)) in
    omega arith

-- so it is for all clients and these blocks
silent_pairs :
    (shape : Shape) (s : ℕ → Block) (blocks : List ℕ) → IsSilent shape s blocks → count_pairs is_under_way shape s blocks ≡ 0
silent_pairs shape s [] quiet = refl
silent_pairs shape s (block ∷ rest) quiet =
    let first = silent_clients shape.clients (s block).client quiet.0 in
    let more = silent_pairs shape s rest quiet.1 in
    omega arith

-- the ledger of blocks that are right
ledger : (shape : Shape) (byte : ℕ → ℕ) (s : ℕ → Block) (blocks : List ℕ) → AllKept shape byte s → LedgerAddsUp shape s blocks
ledger shape byte s blocks kept =
    let sum = pairs_weight shape byte s blocks kept in
    (sum, λ quiet. let none = silent_pairs shape s blocks quiet in omega arith)

-- the ledger in the end of every run
pub every_ledger_adds_up : EveryLedgerAddsUp
every_ledger_adds_up shape image events blocks r =
    ledger shape (λ a. last image events a) (end_of shape image events) blocks (end_kept shape image events r)
