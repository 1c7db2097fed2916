-- What was sent on each way, after one of the ways changed.
use Rattle.std.proofs.Common.{◌≡◌, ℕ, ◌<◌, ◌++◌, List, [], ◌∷◌, length, map, slice_set, slice_index_or, ap, sym, ◌∙◌}
use Rattle.std.proofs.lemmas.List.{map-set, get_or-map}
use Rattle.std.proofs.Math.Seq.{map-set_same}
use Rattle.tl_types.specs.declared.ticket.Ticket.{Ticket}
use Rattle.tl_client_mail.specs.Ways.{Way, sent_on}

-- nothing more was sent on the way that changed
pub sent-same : (ways : List Way) (to : ℕ) (old new d : Way) → sent_on new ≡ sent_on old → old ≡ slice_index_or ways to d → map sent_on (slice_set ways to new) ≡ map sent_on ways
sent-same ways to old new d same is = map-set_same sent_on ways to new d (same ∙ ap sent_on is)

-- one ticket more was sent on the way that changed
pub sent-more : (ways : List Way) (to : ℕ) (old new d : Way) (ticket : Ticket) → to < length ways → sent_on new ≡ sent_on old ++ ticket ∷ [] → old ≡ slice_index_or ways to d
    → map sent_on (slice_set ways to new) ≡ slice_set (map sent_on ways) to (slice_index_or (map sent_on ways) to [] ++ ticket ∷ [])
sent-more ways to old new d ticket inside more is =
    map-set sent_on ways to new
    ∙ ap (λ (s : List Ticket). slice_set (map sent_on ways) to s)
    (more ∙ ap (λ (s : List Ticket). s ++ ticket ∷ []) (ap sent_on is ∙ sym (get_or-map sent_on ways to d [] inside)))
