use Rattle.std.proofs.Common.{◌≡◌, ◌≢◌, ℕ, suc, ◌+◌, ◌==◌, Bool, false, List, take, Some, None, sym, ◌∙◌, ap, subst, arith, eq-eqb}
use Rattle.std.specs.List.{list_any}
use Rattle.std.proofs.lemmas.Bool.Decides.{nat_tests}
use Rattle.tl_types.specs.declared.limits.TheConstants.{MESSAGES}
use Rattle.tl_types.specs.declared.message.Message.{Message}
use Rattle.tl_bank.specs.Contents.{message_waiting}
use Rattle.tl_bank_spec.specs.Channels.{lane_at}
use Rattle.tl_embed.proofs.Waits.{any-next, any-next-not, any-no-more, none-waits, one-waits}
use Rattle.tl_embed.proofs.seen.Seen.waits_there.Goals as goal

-- numbers that are not one differ
apart : (m n : ℕ) → m ≢ n → (m == n) ≡ false
apart m n other = grind (arith, nat_tests)

-- there is no more
pub returns-in-None : goal.returns-in-None
returns-in-None c =
    let p : Message → Bool = λ m. m.block == c.args.self.now.block in
    let none : message_waiting c.args.bank.now c.args.self.now.client c.args.channel c.loop-place.place ≡ None =
    ap (λ n. message_waiting c.args.bank.now n c.args.channel c.loop-place.place) (sym c.new.ensures) ∙ sym c.waiting.ensures ∙ c.in-None.is in
    sym (any-no-more p (lane_at c.args.bank.now c.args.self.now.client c.args.channel).messages c.loop-place.place MESSAGES
    (none-waits c.args.bank.now c.args.self.now.client c.args.channel c.loop-place.place c.requires none) c.loop-place.invariant)

-- this one is of the block
pub returns-then-number-self : goal.returns-then-number-self
returns-then-number-self c =
    let p : Message → Bool = λ m. m.block == c.args.self.now.block in
    let found : message_waiting c.args.bank.now c.args.self.now.client c.args.channel c.loop-place.place ≡ Some c.in-Some.waiting =
    ap (λ n. message_waiting c.args.bank.now n c.args.channel c.loop-place.place) (sym c.new.ensures) ∙ sym c.waiting.ensures ∙ c.in-Some.is in
    sym (any-next p (lane_at c.args.bank.now c.args.self.now.client c.args.channel).messages c.loop-place.place MESSAGES c.in-Some.waiting.1
    (one-waits c.args.bank.now c.args.self.now.client c.args.channel c.loop-place.place c.in-Some.waiting c.requires found)
    (eq-eqb _ _ (sym c.number.ensures ∙ c.if-number-self.true)) c.loop-place-test.true)

-- this one is not
pub loop-place-preserved : goal.loop-place-preserved
loop-place-preserved c =
    let p : Message → Bool = λ m. m.block == c.args.self.now.block in
    let messages : List Message = (lane_at c.args.bank.now c.args.self.now.client c.args.channel).messages in
    let found : message_waiting c.args.bank.now c.args.self.now.client c.args.channel c.loop-place.place ≡ Some c.in-Some.waiting =
    ap (λ n. message_waiting c.args.bank.now n c.args.channel c.loop-place.place) (sym c.new.ensures) ∙ sym c.waiting.ensures ∙ c.in-Some.is in
    let next : suc c.loop-place.place ≡ c.loop-place.place + 1 = omega arith in
    subst (λ n. list_any p (take n messages) ≡ false) next
    (any-next-not p messages c.loop-place.place c.in-Some.waiting.1
    (one-waits c.args.bank.now c.args.self.now.client c.args.channel c.loop-place.place c.in-Some.waiting c.requires found)
    (subst (λ n. (n == c.args.self.now.block) ≡ false) c.number.ensures (apart c.number.result c.args.self.now.block c.if-number-self.false))
    c.loop-place.invariant)

-- there were `MESSAGES`
pub returns : goal.returns
returns c =
    let p : Message → Bool = λ m. m.block == c.args.self.now.block in
    let messages : List Message = (lane_at c.args.bank.now c.args.self.now.client c.args.channel).messages in
    let all : c.loop-place.place ≡ MESSAGES = omega (arith, c.loop-place-test.false, c.loop-place.auto.place-end) in
    sym (subst (λ n. list_any p (take n messages) ≡ false) all c.loop-place.invariant)
