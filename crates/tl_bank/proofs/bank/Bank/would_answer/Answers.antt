use Rattle.std.proofs.Common.{◌≡◌, ℕ, List, ap, sym, ◌∙◌}
use Rattle.tl_types.specs.Lane.{bodies_of}
use Rattle.tl_types.specs.declared.channel.Channel.TheVariants.{B, C}
use Rattle.tl_types.specs.declared.message.Body.TheVariants.{ProbeBlock, Upward as b_Upward}
use Rattle.tl_types.specs.declared.message.Message.{Message}
use Rattle.tl_types.specs.declared.message.ProbeAnswer.{ProbeAnswer}
use Rattle.tl_types.specs.declared.message.Upward.TheVariants.{ProbeAck}
use Rattle.tl_types.specs.declared.permission.Perm.{Perm}
use Rattle.tl_types.specs.declared.permission.ProbeCap.{ProbeCap}
use Rattle.tl_types.specs.declared.wait.Awaited.{Awaited}
use Rattle.tl_types.specs.Message.{probe_answer}
use Rattle.tl_protocol.specs.Copy.{dirty_bytes, perm_of}
use Rattle.tl_protocol.specs.declared.client.Client.{Client}
use Rattle.tl_protocol.specs.declared.copy.CachedCopy.{CachedCopy}
use Rattle.tl_protocol.specs.declared.event.Event.TheVariants.{AnswerProbe}
use Rattle.tl_protocol_lanes.specs.Lanes.{answer_post}
use Rattle.tl_protocol_lanes.specs.Lawful.{Lawful}
use Rattle.tl_protocol_lanes.proofs.First.{every_first_is_first}
use Rattle.tl_protocol_lanes.proofs.Logs.{first_heads_its_list}
use Rattle.tl_bank_laws.specs.Settled.{FindsProbe}
use Rattle.tl_bank_laws.proofs.Probes.{probe-named}
use Rattle.tl_bank_spec.specs.View.{View, client_at, shape_of}
use Rattle.tl_bank.specs.Would.{WouldSend}
use Rattle.tl_bank.proofs.bank.Bank.would_answer.Goals as goal

-- two Probes of which the one is the other leave the same
same-cap : (x y : ProbeCap) → ProbeBlock x ≡ ProbeBlock y → y ≡ x
same-cap x y h = cc

-- the answer to the first Probe is what its event would send
would : (v : View) (c block : ℕ) (copy : CachedCopy) (wait : Awaited) (before : Perm) (answer : ProbeAnswer)
    → FindsProbe v c block copy wait before answer → Lawful (shape_of v.geometry) v.image v.log
    → WouldSend v (AnswerProbe c block) (b_Upward (ProbeAck answer))
would v c block copy wait before answer finds lawful =
    let k : Client = client_at v c block in
    let message : Message = record { block = block; body = ProbeBlock finds.cap } in
    let heads = first_heads_its_list (shape_of v.geometry) v.image v.log c B message finds.first.0 lawful finds.first.1 in
    let first = (every_first_is_first k).on_b message.body (bodies_of block finds.first.0) heads in
    let cap : first.0 ≡ finds.cap = same-cap finds.cap first.0 first.2 in
    record {
      post = record { client = c; channel = C; body = b_Upward (ProbeAck (probe_answer (perm_of k.held) first.0 (dirty_bytes k.held))) };
      sent = ap (λ (caps : List ProbeCap). answer_post c k caps) first.3;
      says =
          ap (λ (p : ProbeCap). b_Upward (ProbeAck (probe_answer (perm_of k.held) p (dirty_bytes k.held)))) cap
          ∙ ap (λ (a : ProbeAnswer). b_Upward (ProbeAck a)) (sym finds.answer_is);
    }

pub returns-clause-sends : goal.returns-clause-sends
returns-clause-sends c = would _ _ _ _ _ _ _ c.in_ok-block.ensures.finds c.log-log.ensures.lawful

pub returns-clause-block : goal.returns-clause-block
returns-clause-block c = probe-named c.in_ok-block.ensures.finds
