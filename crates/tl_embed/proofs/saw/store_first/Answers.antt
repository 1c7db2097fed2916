use Rattle.std.proofs.Common.{◌≡◌, inl, inr, ℕ, ◌+◌, List, refl, ◌∙◌, ap, subst}
use Rattle.tl_types.specs.Count.{count_below}
use Rattle.tl_trace.specs.NetworkState.{NetworkState}
use Rattle.tl_embed.specs.Events.{Reserves}
use Rattle.tl_embed.specs.Saw.{is_stored, number_of}
use Rattle.tl_embed.specs.Seen.{bytes_seen}
use Rattle.tl_embed.specs.Views.{home_of}
use Rattle.tl_embed.specs.declared.answer.Answer.{Answer}
use Rattle.tl_embed.specs.declared.seen.Seen.{Seen}
use Rattle.tl_embed.specs.declared.stores.Inferred.{Inferred}
use Rattle.tl_embed.proofs.saw.store_first.Goals as goal

-- room was asked for as many events as there are stores, and one more
asked-for : (i : Inferred) (s : Seen) (old ready : NetworkState) (room : Answer) (block bank count events : ℕ) (bytes : List ℕ)
    → bank ≡ number_of (home_of old block) → block ≡ s.block → bytes ≡ bytes_seen s → count ≡ count_below (is_stored i bytes) 8
    → events ≡ count + 1 → Reserves bank events old ready room
    → Reserves (number_of (home_of old s.block)) (count_below (is_stored i (bytes_seen s)) 8 + 1) old ready room
asked-for i s old ready room block bank count events bytes at of seen is more reserves =
    let banks : bank ≡ number_of (home_of old s.block) = at ∙ ap (λ (b : ℕ). number_of (home_of old b)) of in
    let all : events ≡ count_below (is_stored i (bytes_seen s)) 8 + 1 =
    more ∙ ap (λ (n : ℕ). n + 1) (is ∙ ap (λ (xs : List ℕ). count_below (is_stored i xs) 8) seen) in
    subst (λ (b : ℕ). Reserves b (count_below (is_stored i (bytes_seen s)) 8 + 1) old ready room) banks
    (subst (λ (n : ℕ). Reserves bank n old ready room) all reserves)

-- there is no room
pub returns-then-room-ne0 : goal.returns-then-room-ne0
returns-then-room-ne0 c = record {
  ready = c.reserve-room.new.network;
  room = c.reserve-room.result;
  reserves =
      asked-for c.args.stores.now c.args.seen.now c.args.network.now c.reserve-room.new.network c.reserve-room.result c.new.result
      c.bank_of-bank.result c.count-events.result _ c.bytes.result.now c.bank_of-bank.ensures c.new.ensures c.bytes.ensures
      c.count-events.ensures.is c.from.ensures c.reserve-room.ensures;
  does = inl (c.if-room-ne0.true, refl, refl);
}

-- there is
pub returns : goal.returns
returns c = record {
  ready = c.reserve-room.new.network;
  room = c.reserve-room.result;
  reserves =
      asked-for c.args.stores.now c.args.seen.now c.args.network.now c.reserve-room.new.network c.reserve-room.result c.new.result
      c.bank_of-bank.result c.count-events.result _ c.bytes.result.now c.bank_of-bank.ensures c.new.ensures c.bytes.ensures
      c.count-events.ensures.is c.from.ensures c.reserve-room.ensures;
  does = inr (c.if-room-ne0.false, c.store_and_send.ensures);
}
