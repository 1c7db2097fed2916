-- The memory has the newest bytes of a block that home lacks, or a Put brings them.
use Rattle.std.proofs.Common.{◌≡◌, ◌≢◌, ℕ, ◌*◌, List, length, Option, Some, None, refl, sym, subst, arith}
use Rattle.tl_protocol.specs.declared.client.Client.{Client}
use Rattle.tl_protocol.specs.declared.event.Event.{Event}
use Rattle.tl_protocol.specs.declared.home.Line.{Line}
use Rattle.tl_protocol.specs.declared.home.Outward.{Outward}
use Rattle.tl_protocol.specs.declared.home.Outward.TheVariants.{Quiet, Get, Data, Put, PutAck}
use Rattle.tl_protocol.specs.declared.shape.Shape.{Shape}
use Rattle.tl_protocol.specs.Coherent.{last, AreLast}
use Rattle.tl_protocol.specs.Protocol.{Block}
use Rattle.tl_protocol.specs.Runs.{end_of}
use Rattle.tl_protocol.specs.Written.{EveryBlockIsWritten}
use Rattle.tl_protocol.proofs.Coherent.{Kept, end_kept}
use Rattle.tl_protocol.proofs.Invariant.{OutwardIs, HomeIs}

-- the memory has the newest bytes but for a Put
outward_memory :
    (now memory : List ℕ) (outward : Outward) → ((bytes : List ℕ) → outward ≢ Put bytes) → OutwardIs now memory outward → memory ≡ now
outward_memory now memory Quiet n h = h
outward_memory now memory Get n h = h
outward_memory now memory (Data bytes) n h = h.1
outward_memory now memory (Put bytes) n h = absurd (n bytes refl)
outward_memory now memory PutAck n h = h

-- a Put has the newest bytes
outward_put :
    (now memory : List ℕ) (outward : Outward) (bytes : List ℕ) → outward ≡ Put bytes → OutwardIs now memory outward → bytes ≡ now
outward_put now memory Quiet bytes e h = cc
outward_put now memory Get bytes e h = cc
outward_put now memory (Data own) bytes e h = cc
outward_put now memory (Put own) bytes e h = cc
outward_put now memory PutAck bytes e h = cc

-- the answer to a Get has them
outward_data :
    (now memory : List ℕ) (outward : Outward) (bytes : List ℕ) → outward ≡ Data bytes → OutwardIs now memory outward → bytes ≡ now
outward_data now memory Quiet bytes e h = cc
outward_data now memory Get bytes e h = cc
outward_data now memory (Data own) bytes e h = let same = h.0 in cc
outward_data now memory (Put own) bytes e h = cc
outward_data now memory PutAck bytes e h = cc

-- what holds of what is outward where home has no copy
home_outward :
    (now memory : List ℕ) (home : Option Line) (outward : Outward) (client : ℕ → Client) → home ≡ None
    → HomeIs now memory home outward client → OutwardIs now memory outward
home_outward now memory None outward client e h = h.1
home_outward now memory (Some line) outward client e h = cc

-- with something outward home has no copy
passing_home :
    (now memory : List ℕ) (home : Option Line) (outward : Outward) (client : ℕ → Client) → outward ≢ Quiet
    → HomeIs now memory home outward client → home ≡ None
passing_home now memory None outward client n h = refl
passing_home now memory (Some line) outward client n h = absurd (n h.0)

-- the newest bytes are the last stored ones
now_last :
    (shape : Shape) (image : List ℕ) (events : List Event) (block : ℕ) (s : Block) (bytes : List ℕ)
    → (k : Kept shape (λ a. last image events a) block s) → bytes ≡ k.now
    → AreLast image events (block * shape.block_bytes) bytes
now_last shape image events block s bytes k same =
    subst (λ (own : List ℕ). AreLast image events (block * shape.block_bytes) own) (sym same)
    (λ j l. k.is_now.each j (let long : length k.now ≡ shape.block_bytes = k.is_now.long in omega arith))

-- what is written of each block in the end of every run
pub every_block_is_written : EveryBlockIsWritten
every_block_is_written shape image events run block =
    let s : Block = end_of shape image events block in
    let k = end_kept shape image events run block in
    let at_home : HomeIs k.now s.memory s.home s.outward s.client = (k.inv).home in
    let known : s.outward ≢ Quiet → OutwardIs k.now s.memory s.outward =
    λ n. home_outward k.now s.memory s.home s.outward s.client (passing_home k.now s.memory s.home s.outward s.client n at_home) at_home in
    record {
      memory = λ none n. now_last shape image events block s s.memory k
          (outward_memory k.now s.memory s.outward n (home_outward k.now s.memory s.home s.outward s.client none at_home));
      put = λ bytes e. now_last shape image events block s bytes k
          (outward_put k.now s.memory s.outward bytes e (known (λ q. cc)));
      fetched = λ bytes e. now_last shape image events block s bytes k
          (outward_data k.now s.memory s.outward bytes e (known (λ q. cc)));
    }
