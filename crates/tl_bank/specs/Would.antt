-- What a call of a client would send, were it made now (this project's own).
use Rattle.std.specs.Prelude.{◌≡◌, Some}
use Rattle.tl_types.specs.declared.message.Body.{Body}
use Rattle.tl_protocol.specs.Protocol.{block_of}
use Rattle.tl_protocol.specs.declared.event.Event.{Event}
use Rattle.tl_protocol_lanes.specs.Lanes.{Post, post_of}
use Rattle.tl_bank_spec.specs.View.{View, end_at, shape_of}

-- An event would send a message that says this.
pub record WouldSend (v : View) (event : Event) (body : Body) : Type 0 where
  pub post : Post
  pub sent : post_of (shape_of v.geometry) (end_at v (block_of (shape_of v.geometry) event)) event ≡ Some post
  pub says : post.body ≡ body
