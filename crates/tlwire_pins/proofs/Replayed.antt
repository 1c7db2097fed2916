-- What is seen of one more event of a run.
use Rattle.std.proofs.Common.{◌≡◌, ◌<◌, ℕ, List, [], ◌∷◌, ◌++◌, Option, sym, ap, subst, ◌∙◌, append_assoc}
use Rattle.std.proofs.lemmas.List.{append-nil}
use Rattle.tl_protocol.specs.Protocol.{Block, block_of}
use Rattle.tl_protocol.specs.Runs.{after_next, at_reset, end_from, end_of}
use Rattle.tl_protocol.specs.declared.event.Event.{Event}
use Rattle.tl_protocol.specs.declared.shape.Shape.{Shape}
use Rattle.tl_protocol.specs.declared.event.Event.TheVariants.{TakeGrant, TakeReleaseAck}
use Rattle.tl_rules.specs.Plain.{IsStep, block_state, plain_client, state_of_plain}
use Rattle.tl_rules.specs.PlainBlock.{PlainBlock}
use Rattle.tl_rules.specs.PlainState.{PlainState}
use Rattle.tlwire_search.specs.Explained.{as_list}
use Rattle.tlwire_search.specs.Led.{own_block}
use Rattle.tlwire_search.proofs.Led.{led_on}
use Rattle.tlwire_search.specs.declared.seen.Seen.{Seen}
use Rattle.tlwire_pins.specs.Pins.{line_of, lines_from, taken_seen}
use Rattle.tlwire_pins.specs.Walk.{IsReplayed}

grows : (shape : Shape) (s : ℕ → Block) (run : List Event) (e : Event)
    → lines_from shape s (run ++ e ∷ []) ≡ lines_from shape s run ++ as_list (line_of shape (end_from shape s run (block_of shape e)) e)
grows shape s [] e = append-nil (as_list (line_of shape (s (block_of shape e)) e))
grows shape s (x ∷ rest) e =
    ap (λ (zs : List Seen). as_list (line_of shape (s (block_of shape x)) x) ++ zs) (grows shape (after_next shape s x) rest e)
    ∙ sym (append_assoc (as_list (line_of shape (s (block_of shape x)) x)) (lines_from shape (after_next shape s x) rest) (as_list (line_of shape (end_from shape (after_next shape s x) rest (block_of shape e)) e)))

-- one more event
pub replayed_more : (shape : Shape) (image : List ℕ) (run : List Event) (p new : PlainState) (lines more : List Seen) (e : Event)
    → IsReplayed shape image run p lines → IsStep p new e
    → more ≡ lines ++ as_list (line_of p.shape (own_block p e) e) → IsReplayed shape image (run ++ e ∷ []) new more
replayed_more shape image run p new lines more e r step is =
    record {
      leads = led_on shape image run p new e r.leads step;
      seen =
          is
          ∙ (ap (λ (xs : List Seen). xs ++ as_list (line_of p.shape (own_block p e) e)) r.seen
          ∙ sym (grows shape (at_reset shape image) run e
          ∙ subst (λ (sh : Shape). lines_from shape (at_reset shape image) run ++ as_list (line_of shape (end_of shape image run (block_of shape e)) e)
          ≡ lines_from shape (at_reset shape image) run ++ as_list (line_of sh (state_of_plain p (block_of sh e)) e)) (sym r.leads.same_shape)
          (ap (λ (b : Block). lines_from shape (at_reset shape image) run ++ as_list (line_of shape b e))
          (r.leads.ended (block_of shape e) (subst (λ (sh : Shape). block_of sh e < sh.blocks) r.leads.same_shape step.permitted.0)))));
    }

-- what is taken from D
pub grant_line : (q : PlainState) (c b n : ℕ) (p : PlainBlock) (r : Option Seen) (e : Event) → e ≡ TakeGrant c b → n ≡ b
    → block_state p ≡ state_of_plain q n → r ≡ taken_seen c b (plain_client p c).d → r ≡ line_of q.shape (own_block q e) e
grant_line q c b n p r e is num state taken =
    subst (λ (x : Event). r ≡ line_of q.shape (own_block q x) x) (sym is)
    (taken ∙ ap (λ (s : Block). taken_seen c b (s.client c).d) (state ∙ ap (λ (m : ℕ). state_of_plain q m) num))

pub ack_line : (q : PlainState) (c b n : ℕ) (p : PlainBlock) (r : Option Seen) (e : Event) → e ≡ TakeReleaseAck c b → n ≡ b
    → block_state p ≡ state_of_plain q n → r ≡ taken_seen c b (plain_client p c).d → r ≡ line_of q.shape (own_block q e) e
ack_line q c b n p r e is num state taken =
    subst (λ (x : Event). r ≡ line_of q.shape (own_block q x) x) (sym is)
    (taken ∙ ap (λ (s : Block). taken_seen c b (s.client c).d) (state ∙ ap (λ (m : ℕ). state_of_plain q m) num))
