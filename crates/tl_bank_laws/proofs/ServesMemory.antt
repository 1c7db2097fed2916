-- The memory answers home's request.
use Rattle.std.proofs.Common.{◌≡◌, ◌≢◌, ℕ, ◌^◌, ◌==◌, true, List, Option, None, if◌then◌else◌, refl, sym, ◌∙◌, ap, subst, inl, inr}
use Rattle.std.proofs.lemmas.Bool.{not-false}
use Rattle.tl_protocol.specs.Home.{IsRequest}
use Rattle.tl_protocol.specs.Protocol.{Block, served}
use Rattle.tl_protocol.specs.Sizes.{IsWhole, outward_bytes}
use Rattle.tl_protocol.specs.declared.event.Event.TheVariants.{Serve}
use Rattle.tl_protocol.specs.declared.home.Outward.{Outward}
use Rattle.tl_protocol.specs.declared.home.Outward.TheVariants.{Quiet, Get, Data, Put, PutAck}
use Rattle.tl_protocol.proofs.Coherent.{every_run_keeps_sizes}
use Rattle.tl_bank_home.specs.Homes.{HomeState, SameBank, SameHome, memory_in, outward_in, reply_to, served_memory, served_outward, way_in}
use Rattle.tl_memory.specs.declared.request.Reply.{Reply}
use Rattle.tl_bank_spec.specs.Effects.{AnswersRequest, MemoryReplies}
use Rattle.tl_bank_spec.specs.HomeCalls.{serve_memory_cases}
use Rattle.tl_bank_spec.specs.HomeCases.{is_request}
use Rattle.tl_bank_spec.specs.Refusal.{first_of}
use Rattle.tl_bank_spec.specs.View.{View, end_at, shape_of}
use Rattle.tl_bank_spec.specs.Own.{IsOwn, ways_below}
use Rattle.tl_bank_laws.specs.Layers.{Layers}
use Rattle.tl_bank_laws.specs.Means.{IsHomeOf, Means}
use Rattle.tl_bank_laws.proofs.Allowed.{AllFalse, all-false, block-is, here-is}
use Rattle.tl_bank_laws.proofs.HomeSteps.{SameAt, homes-event, homes-layers}
use Rattle.tl_bank_laws.proofs.Moves.{at-block, at-other}
use Rattle.tl_bank_laws.proofs.Next.{means-next, next_view}
use Rattle.tl_bank_laws.proofs.Slots.{below-at}
use Rattle.tl_bank_laws.proofs.Ways.{bank-steady, fit-stays, same-work, ways-stay}

-- ## What may be answered

-- what is found to be a request is a Get or a Put
request-is : (out : Outward) → is_request out ≡ true → IsRequest out
request-is Quiet h = cc
request-is Get h = inl refl
request-is (Data bytes) h = cc
request-is (Put bytes) h = inr (bytes, refl)
request-is PutAck h = cc

-- a block of the bank, of which the memory has a request
pub record ServeAllowed (v : View) (block : ℕ) : Type 0 where
  pub own : IsOwn v.geometry v.number block
  pub request : IsRequest (end_at v block).outward

-- so it is where no refusal's case holds
pub serve-allowed : (v : View) (block : ℕ) → first_of (serve_memory_cases v block) ≡ None → ServeAllowed v block
serve-allowed v block none =
    let f : AllFalse (serve_memory_cases v block) = all-false (serve_memory_cases v block) none in
    record {
      own = (block-is v block f.0, here-is v block f.1.0);
      request = request-is (end_at v block).outward (not-false (is_request (end_at v block).outward) f.1.1.0);
    }

-- what passes of a block of the bank
pub outward-is : (v : View) (h : Layers) (block : ℕ) → Means v h → IsOwn v.geometry v.number block
    → outward_in h.home block ≡ (end_at v block).outward
outward-is v h block m own = (m.home block own).outward

-- what passes is a whole block
pub serve-whole : (v : View) (h : Layers) (block : ℕ) → Means v h → first_of (serve_memory_cases v block) ≡ None
    → IsWhole v.geometry.block_bytes (outward_bytes (outward_in h.home block))
serve-whole v h block m none =
    let ok = serve-allowed v block none in
    let whole = (every_run_keeps_sizes (shape_of v.geometry) v.image v.log m.lawful.run block).outward in
    subst (λ (out : Outward). IsWhole v.geometry.block_bytes (outward_bytes out)) (sym (outward-is v h block m ok.own)) whole

-- ## What the answer leaves

-- the memory's answer leaves home's copy
served-home : (s : Block) (out : Outward) → (served s out).home ≡ s.home
served-home s Quiet = refl
served-home s Get = refl
served-home s (Data bytes) = refl
served-home s (Put bytes) = refl
served-home s PutAck = refl

-- it leaves what home records of each client
served-client : (s : Block) (out : Outward) (x : ℕ) → ((served s out).client x).recorded ≡ (s.client x).recorded
served-client s Quiet x = refl
served-client s Get x = refl
served-client s (Data bytes) x = refl
served-client s (Put bytes) x = refl
served-client s PutAck x = refl

-- what passes after the answer, by either definition
served-outward : (s : Block) (out : Outward) → s.outward ≡ out → served_outward s.memory out ≡ (served s out).outward
served-outward s Quiet is = sym is
served-outward s Get is = refl
served-outward s (Data bytes) is = sym is
served-outward s (Put bytes) is = refl
served-outward s PutAck is = sym is

-- the block's bytes in memory after it, by either definition
served-memory : (s : Block) (out : Outward) → served_memory s.memory out ≡ (served s out).memory
served-memory s Quiet = refl
served-memory s Get = refl
served-memory s (Data bytes) = refl
served-memory s (Put bytes) = refl
served-memory s PutAck = refl

-- what became of home
pub record Served (old new : HomeState) (block : ℕ) : Type 0 where
  pub bank : SameBank old new
  pub home : SameHome old new
  pub outward :
      (b : ℕ) → outward_in new b
      ≡ (if b == block then served_outward (memory_in old block) (outward_in old block) else outward_in old b)
  pub memory :
      (b : ℕ) → memory_in new b
      ≡ (if b == block then served_memory (memory_in old block) (outward_in old block) else memory_in old b)

-- home has of the block what the answer leaves
serve-home : (old new : HomeState) (block : ℕ) (s : Block) → Served old new block → IsHomeOf old block s
    → IsHomeOf new block (served s s.outward)
serve-home old new block s did h = record {
  line = did.home.lines block ∙ h.line ∙ sym (served-home s s.outward);
  recorded = λ c. did.home.recorded c block ∙ h.recorded c ∙ sym (served-client s s.outward c);
  outward =
      did.outward block ∙ at-block block (served_outward (memory_in old block) (outward_in old block)) (outward_in old block)
      ∙ ap (λ out. served_outward (memory_in old block) out) h.outward
      ∙ ap (λ bytes. served_outward bytes s.outward) h.memory ∙ served-outward s s.outward refl;
  memory =
      did.memory block ∙ at-block block (served_memory (memory_in old block) (outward_in old block)) (memory_in old block)
      ∙ ap (λ out. served_memory (memory_in old block) out) h.outward
      ∙ ap (λ bytes. served_memory bytes s.outward) h.memory ∙ served-memory s s.outward;
}

-- and of each other block what it had
serve-others : (old new : HomeState) (block : ℕ) → Served old new block → (b : ℕ) → b ≢ block → SameAt old new b
serve-others old new block did b ne = record {
  line = did.home.lines b;
  recorded = λ c. did.home.recorded c b;
  outward = did.outward b ∙ at-other block b (served_outward (memory_in old block) (outward_in old block)) (outward_in old b) ne;
  memory = did.memory b ∙ at-other block b (served_memory (memory_in old block) (outward_in old block)) (memory_in old b) ne;
}

-- The bank after the memory answered.
pub serve-keeps : (v : View) (h : Layers) (home : HomeState) (block room : ℕ) → Means v h
    → first_of (serve_memory_cases v block) ≡ None → Served h.home home block
    → Means (next_view v (Serve block) room v.registers (ways_below (way_in home) v.geometry.memory_blocks)) (record h { home = home })
serve-keeps v h home block room m none did =
    let ok = serve-allowed v block none in
    let e = Serve block in
    let ways : List (Option ℕ) = ways_below (way_in home) v.geometry.memory_blocks in
    let steady = bank-steady v h m in
    means-next v h (record h { home = home }) e room v.registers ways m
    (homes-event v e tt (ok.own.0, ok.request) ok.own.1)
    (homes-layers v h home e m tt ok.own (record {
      bank = did.bank;
      at = serve-home h.home home block (end_at v block) did (m.home block ok.own);
      others = serve-others h.home home block did;
    }))
    (fit-stays v e room ways steady tt m.registers)
    (ways-stay v e room v.registers ways h.home home steady tt tt (same-work v.registers) did.home.ways
    (below-at (way_in home) v.geometry.memory_blocks) m.ways)

-- ## The reply

-- the memory's reply to what passes is the one that the rules say
reply-of : (s : Block) (size : ℕ) → IsRequest s.outward → AnswersRequest s size (reply_to size s.memory s.outward)
reply-of s size h =
    elim h [
      | inl get ↦ inl (get, ap (λ out. reply_to size s.memory out) get)
      | inr put ↦ inr (put.0, put.1, ap (λ out. reply_to size s.memory out) put.1)
    ]

-- What the memory answered is what it answers to the request.
pub serve-reply : (v : View) (h : Layers) (block size : ℕ) (reply : Reply) → Means v h → first_of (serve_memory_cases v block) ≡ None
    → 2 ^ size ≡ v.geometry.block_bytes → reply ≡ reply_to size (memory_in h.home block) (outward_in h.home block)
    → MemoryReplies v block reply
serve-reply v h block size reply m none is_size is =
    let ok = serve-allowed v block none in
    let part = m.home block ok.own in
    let s : Block = end_at v block in
    let same : reply ≡ reply_to size s.memory s.outward =
    is ∙ ap (λ out. reply_to size (memory_in h.home block) out) part.outward
    ∙ ap (λ bytes. reply_to size bytes s.outward) part.memory in
    record {
      size = size;
      is_size = is_size;
      answers = subst (λ (r : Reply). AnswersRequest s size r) (sym same) (reply-of s size ok.request);
    }
