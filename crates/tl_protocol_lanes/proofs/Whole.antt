-- The data of the first message of a channel is a whole block.
use Rattle.std.proofs.Common.{◌≡◌, ℕ, List, ◌∷◌, sym, subst, arith}
use Rattle.std.specs.List.{All}
use Rattle.tl_types.specs.Lane.{bodies_of}
use Rattle.tl_types.specs.Message.{upward_bytes}
use Rattle.tl_types.specs.Bodies.{body_bytes, downward_bytes}
use Rattle.tl_types.specs.declared.channel.Channel.{Channel}
use Rattle.tl_types.specs.declared.channel.Channel.TheVariants.{A, B, C, D, E}
use Rattle.tl_types.specs.declared.message.Body.{Body}
use Rattle.tl_types.specs.declared.message.Upward.{Upward}
use Rattle.tl_types.specs.declared.message.Downward.{Downward}
use Rattle.tl_protocol.specs.declared.shape.Shape.{Shape}
use Rattle.tl_protocol.specs.Protocol.{Block}
use Rattle.tl_protocol.specs.Runs.{end_of}
use Rattle.tl_protocol.specs.Sizes.{IsWhole, IsWholeAt}
use Rattle.tl_protocol.proofs.Coherent.{every_run_keeps_sizes}
use Rattle.tl_protocol_lanes.specs.Lawful.{FirstIsWhole}
use Rattle.tl_protocol_lanes.specs.Lists.{list_in}
use Rattle.tl_protocol_lanes.proofs.First.{every_first_is_first}
use Rattle.tl_protocol_lanes.proofs.Logs.{first_heads_its_list}

-- what holds of each element holds of the first
first_of_all : {X : Type 0} (P : X → Type 0) (xs : List X) (x : X) (rest : List X) → xs ≡ x ∷ rest → All P xs → P x
first_of_all {X} P xs x rest e all =
    let listed : All P (x ∷ rest) = subst (λ (ys : List X). All P ys) e all in listed 0 x (omega arith)

-- the first of a block's list has whole data
list_is_whole :
    (shape : Shape) (s : Block) (x : ℕ) (l : Channel) (body : Body) (rest : List Body) → IsWholeAt shape s
    → list_in (s.client x) l ≡ body ∷ rest → IsWhole shape.block_bytes (body_bytes body)
list_is_whole shape s x A body rest whole e =
    let first = (every_first_is_first (s.client x)).on_a body rest e in
    subst (λ (b : Body). IsWhole shape.block_bytes (body_bytes b)) (sym first.2) tt
list_is_whole shape s x B body rest whole e =
    let first = (every_first_is_first (s.client x)).on_b body rest e in
    subst (λ (b : Body). IsWhole shape.block_bytes (body_bytes b)) (sym first.2) tt
list_is_whole shape s x C body rest whole e =
    let first = (every_first_is_first (s.client x)).on_c body rest e in
    subst (λ (b : Body). IsWhole shape.block_bytes (body_bytes b)) (sym first.2)
    (first_of_all (λ (m : Upward). IsWhole shape.block_bytes (upward_bytes m)) (s.client x).c first.0 first.1 first.3 (whole.on_c x))
list_is_whole shape s x D body rest whole e =
    let first = (every_first_is_first (s.client x)).on_d body rest e in
    subst (λ (b : Body). IsWhole shape.block_bytes (body_bytes b)) (sym first.2)
    (first_of_all (λ (m : Downward). IsWhole shape.block_bytes (downward_bytes m)) (s.client x).d first.0 first.1 first.3 (whole.on_d x))
list_is_whole shape s x E body rest whole e =
    let first = (every_first_is_first (s.client x)).on_e body rest e in
    subst (λ (b : Body). IsWhole shape.block_bytes (body_bytes b)) (sym first.0) tt

-- the data of the first message of a channel is a whole block
pub first_is_whole : FirstIsWhole
first_is_whole shape image log x l message rest lawful e =
    list_is_whole shape (end_of shape image log message.block) x l message.body (bodies_of message.block rest)
    (every_run_keeps_sizes shape image log lawful.run message.block)
    (first_heads_its_list shape image log x l message rest lawful e)
