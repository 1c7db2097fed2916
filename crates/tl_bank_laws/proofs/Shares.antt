-- A client's share, where a call changes one of its copies.
use Rattle.std.proofs.Common.{◌≡◌, ℕ, ◌<◌, ◌^◌, false, [], ◌∷◌, ◌++◌, sym, ◌∙◌, ap}
use Rattle.tl_types.specs.declared.permission.Perm.{Perm}
use Rattle.tl_map.specs.Limits.{IsLawful}
use Rattle.tl_protocol.specs.Copy.{perm_of}
use Rattle.tl_protocol.specs.Protocol.{block_of, is_none}
use Rattle.tl_protocol.specs.declared.client.Client.{Client}
use Rattle.tl_protocol.specs.declared.event.Event.{Event}
use Rattle.tl_bank_spec.specs.Share.{ShareView, recount}
use Rattle.tl_bank_spec.specs.View.{View, shape_of, perm_at}
use Rattle.tl_bank_spec.specs.Tables.{copies_at}
use Rattle.tl_bank_laws.proofs.Counts.{step-count, counts-one, copies-few}
use Rattle.tl_bank_laws.proofs.Keep.{ClientStep}

-- a share with the number of the client's copies can lose one that is there, and gain one
pub share-enough : (v : View) (c b : ℕ) (share : ShareView) → IsLawful v.geometry → b < v.geometry.memory_blocks → share.count ≡ copies_at v c
    → (is_none (perm_at v c b) ≡ false → 0 < share.count) × (share.count < 2 ^ 31)
share-enough v c b share lawful l is = (λ some. rw is (counts-one v c b l some), rw is (copies-few v c lawful))

-- counted anew, it has their number after the event
pub share-count : (v : View) (e : Event) (c : ℕ) (k : Client) (room : ℕ) (share : ShareView) (before later : Perm) → ClientStep v e c k
    → share.count ≡ copies_at v c → before ≡ perm_at v c (block_of (shape_of v.geometry) e) → later ≡ perm_of k.held
    → recount before later share.count ≡ copies_at (record v { log = v.log ++ e ∷ []; room = room }) c
share-count v e c k room share before later step is from to =
    ap (λ p. recount p later share.count) from
    ∙ ap (λ p. recount (perm_at v c (block_of (shape_of v.geometry) e)) p share.count) to
    ∙ ap (recount (perm_at v c (block_of (shape_of v.geometry) e)) (perm_of k.held)) is
    ∙ sym (step-count v e c k room step)
