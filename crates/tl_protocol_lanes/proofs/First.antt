-- What the first of a block's list says of its client.
use Rattle.std.proofs.Common.{◌≡◌, ℕ, zero, suc, ◌<◌, List, [], ◌∷◌, map, replicate, refl, arith}
use Rattle.tl_types.specs.declared.message.Body.{Body}
use Rattle.tl_types.specs.declared.message.Body.TheVariants.{GrantAck}
use Rattle.tl_protocol_lanes.specs.Lists.{EveryFirstIsFirst}

-- a list of marked values that begins with a body begins with a marked value
first_of_map :
    {X : Type 0} (mark : X → Body) (xs : List X) (body : Body) (rest : List Body) → map mark xs ≡ body ∷ rest
    → (x : X) × (more : List X) × (body ≡ mark x) × (xs ≡ x ∷ more)
first_of_map mark [] body rest e = cc
first_of_map mark (x ∷ more) body rest e = (x, more, cc, refl)

-- a list of so many GrantAcks that begins has one
first_of_replicate : (n : ℕ) (body : Body) (rest : List Body) → replicate n GrantAck ≡ body ∷ rest → (body ≡ GrantAck) × (0 < n)
first_of_replicate zero body rest e = cc
first_of_replicate (suc n) body rest e = (cc, omega arith)

-- a list that begins is of a client whose own list begins so
pub every_first_is_first : EveryFirstIsFirst
every_first_is_first k = record {
  on_a = λ body rest e. first_of_map _ k.a body rest e;
  on_b = λ body rest e. first_of_map _ k.b body rest e;
  on_c = λ body rest e. first_of_map _ k.c body rest e;
  on_d = λ body rest e. first_of_map _ k.d body rest e;
  on_e = λ body rest e. first_of_replicate k.e body rest e;
}
