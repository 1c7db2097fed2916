-- What an event takes and sends, on the channels of a record.
use Rattle.std.proofs.Common.{◌≡◌, ℕ, Bool, cond, Option, Some, None, refl, ap, ◌∙◌, subst, inl, inr}
use Rattle.std.specs.Prelude.{IfSome}
use Rattle.std.proofs.lemmas.Bool.{cases_Bool}
use Rattle.tl_types.specs.Lane.{is_here}
use Rattle.tl_types.specs.declared.channel.Channel.{Channel}
use Rattle.tl_protocol.specs.Protocol.{block_of}
use Rattle.tl_protocol.specs.declared.event.Event.{Event}
use Rattle.tl_protocol_lanes.specs.Lanes.{LinkChannel, Post, post_of, take_of}
use Rattle.tlcheck_rules.specs.Judged.{JudgeState, own_block}
use Rattle.tlchart_model.specs.Message.{link_message}
use Rattle.tlchart_model.specs.declared.message.ShownMessage.{ShownMessage}
use Rattle.tlchart_model.specs.declared.turn.Turn.{Turn}
use Rattle.tlcheck_chart.specs.Lanes.{LaneState}
use Rattle.tlcheck_chart.specs.Serials.{IsDone, joined, lane_at, message_sent, place_taken, removed, ticket_at, with_taken}
use Rattle.tlcheck_chart.specs.declared.serials.Serials.{Serials}

-- what is taken does not change how many were sent
count-stays : (link : Option LinkChannel) (block x : ℕ) (k : Channel) (lane : LaneState) → (removed link block x k lane).count ≡ lane.count
count-stays None block x k lane = refl
count-stays (Some link) block x k lane = elim (cases_Bool (is_here link.client link.channel x k)) [
  | inl is ↦ ap (λ (t : Bool). (cond t (with_taken block lane) lane).count) is
  | inr fails ↦ ap (λ (t : Bool). (cond t (with_taken block lane) lane).count) fails
]

-- so what is sent has the same number after something is taken
message-stays : (post : Option Post) (block : ℕ) (old mid : Serials) (sends : Option ShownMessage)
    → ((x : ℕ) (k : Channel) → (lane_at mid x k).count ≡ (lane_at old x k).count)
    → IfSome post (λ post. sends ≡ Some (message_sent mid block post))
    → IfSome post (λ post. sends ≡ Some (message_sent old block post))
message-stays None block old mid sends same h = tt
message-stays (Some post) block old mid sends same h =
    h ∙ ap (λ (n : ℕ). Some (link_message (ticket_at post.client post.channel n) block post.body)) (same post.client post.channel)

-- an event takes something, and then sends something
pub done : (judge : JudgeState) (e : Event) (block : ℕ) (old mid new : Serials) (turn : Turn)
    → block ≡ block_of judge.plain.shape e
    → IfSome (take_of e) (λ link. turn.takes ≡ place_taken old block link)
    → ((x : ℕ) (k : Channel) → lane_at mid x k ≡ removed (take_of e) block x k (lane_at old x k))
    → IfSome (post_of judge.plain.shape (own_block judge e) e) (λ post. turn.sends ≡ Some (message_sent mid block post))
    → ((x : ℕ) (k : Channel)
    → lane_at new x k ≡ joined (post_of judge.plain.shape (own_block judge e) e) block x k (lane_at mid x k))
    → IsDone judge e old new turn
done judge e block old mid new turn is takes left sends after =
    let post : Option Post = post_of judge.plain.shape (own_block judge e) e in
    let same : (x : ℕ) (k : Channel) → (lane_at mid x k).count ≡ (lane_at old x k).count =
    λ x k. ap (λ (l : LaneState). l.count) (left x k) ∙ count-stays (take_of e) block x k (lane_at old x k) in
    record {
      takes = subst (λ (b : ℕ). IfSome (take_of e) (λ link. turn.takes ≡ place_taken old b link)) is takes;
      sends =
          subst (λ (b : ℕ). IfSome post (λ p. turn.sends ≡ Some (message_sent old b p))) is
          (message-stays post block old mid turn.sends same sends);
      lanes = λ x k.
          subst (λ (b : ℕ). lane_at new x k ≡ joined post b x k (removed (take_of e) b x k (lane_at old x k))) is
          (after x k ∙ ap (λ (l : LaneState). joined post block x k l) (left x k));
    }
