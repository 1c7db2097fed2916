-- What is counted is what was reached.
use Rattle.std.proofs.Common.{◌≡◌, ℕ, ◌<◌, List, ◌∷◌, ◌++◌, [], Some, None, Result, Ok, Err, OnOk, OnErr, inl, inr, sym, ap, ◌∙◌, subst}
use Rattle.tl_protocol.specs.declared.event.Event.{Event}
use Rattle.tl_protocol.specs.declared.shape.Shape.{Shape}
use Rattle.tl_protocol.specs.Protocol.{Block, block_of}
use Rattle.tl_protocol.specs.Runs.{end_of}
use Rattle.tl_rules.specs.Plain.{state_of_plain}
use Rattle.tl_rules.specs.PlainState.{PlainState}
use Rattle.tlcheck_rules.specs.declared.order.ChannelOrder.{ChannelOrder}
use Rattle.tlcheck_rules.specs.Judged.{Follows, IsPermitted, JudgeState}
use Rattle.tlcheck_rules.specs.Rules.{client_of}
use Rattle.tlcheck_rules.specs.declared.entry.Entry.{Entry}
use Rattle.tlcheck_situations.specs.Reach.{situation_after}
use Rattle.tlcheck_situations.specs.Situation.{situation_of}
use Rattle.tlcheck_situations.specs.declared.situation.Situation.{Situation}
use Rattle.tlcheck_situations.proofs.Complete.{client_is_there}
use Rattle.tlcheck_home.specs.Tally.{HasTablesOf, IsNoted, IsSeen, IsSituationIn, TallyState}
use Rattle.tlcheck_home.specs.declared.tally.Mark.{Mark}

-- the situation that the judge shows is that after the log
shown_situation :
    (order : ChannelOrder) (shape : Shape) (image : List ℕ) (log : List Event) (judge : JudgeState) (e : Event) → Follows order shape image log judge
    → block_of shape e < shape.blocks
    → situation_of judge.plain.shape.clients (state_of_plain judge.plain (block_of judge.plain.shape e)) e
    ≡ situation_after shape image log e
shown_situation order shape image log judge e follows inside =
    ap (λ (s : Shape). situation_of s.clients (state_of_plain judge.plain (block_of s e)) e) follows.same_shape
    ∙ ap (λ (b : Block). situation_of shape.clients b e) (sym (follows.ended (block_of shape e) inside))

-- an entry that was permitted is seen where its situation was counted
pub seen :
    (order : ChannelOrder) (shape : Shape) (image : List ℕ) (log : List Event) (entry : Entry) (mark : Mark) (before after : JudgeState)
    (old new : TallyState) (s : Situation)
    → Follows order shape image log before → IsPermitted order shape image log entry → Follows order shape image (log ++ entry.event ∷ []) after
    → s ≡ situation_of before.plain.shape.clients (state_of_plain before.plain (block_of before.plain.shape entry.event)) entry.event
    → IsNoted s mark old new → IsSeen order shape image log entry mark after old new
seen order shape image log entry mark before after old new s follows permitted later is noted = record {
  permitted = permitted;
  follows = later;
  noted = subst (λ (x : Situation). IsNoted x mark old new)
      (is ∙ shown_situation order shape image log before entry.event follows permitted.may.0) noted;
}

-- an entry that was permitted has a situation
pub never_unseen :
    (order : ChannelOrder) (shape : Shape) (image : List ℕ) (log : List Event) (entry : Entry) (before : JudgeState) → 0 < shape.clients
    → Follows order shape image log before → IsPermitted order shape image log entry
    → (block_of before.plain.shape entry.event < before.plain.shape.blocks → client_of entry.event < before.plain.shape.clients → ⊥)
    → ⊥
never_unseen order shape image log entry before some follows permitted none =
    let same : (block_of shape entry.event < shape.blocks → client_of entry.event < shape.clients → ⊥)
    = subst (λ (s : Shape). block_of s entry.event < s.blocks → client_of entry.event < s.clients → ⊥) follows.same_shape none in
    same permitted.may.0
    (client_is_there shape (end_of shape image log (block_of shape entry.event)) entry.event some permitted.may.1)

-- what is seen of an entry that was permitted, whatever its situation
pub seen_as :
    (order : ChannelOrder) (shape : Shape) (image : List ℕ) (log : List Event) (entry : Entry) (mark : Mark) (before after : JudgeState) (plain : PlainState)
    (old new : TallyState) (s : Situation) → plain ≡ before.plain
    → Follows order shape image log before → IsPermitted order shape image log entry → Follows order shape image (log ++ entry.event ∷ []) after
    → IsSituationIn plain entry.event (Some s) → IsNoted s mark old new → IsSeen order shape image log entry mark after old new
seen_as order shape image log entry mark before after plain old new s same follows permitted later is noted =
    seen order shape image log entry mark before after old new s follows permitted later
    (subst (λ (p : PlainState). IsSituationIn p entry.event (Some s)) same is) noted

-- it has one
pub never_none :
    (order : ChannelOrder) (shape : Shape) (image : List ℕ) (log : List Event) (entry : Entry) (before : JudgeState) (plain : PlainState) → plain ≡ before.plain
    → 0 < shape.clients → Follows order shape image log before → IsPermitted order shape image log entry → IsSituationIn plain entry.event None → ⊥
never_none order shape image log entry before plain same some follows permitted is =
    never_unseen order shape image log entry before some follows permitted
    (subst (λ (p : PlainState). IsSituationIn p entry.event None) same is)

-- what follows of what holds of a result that is Ok
pub on_ok : {T E : Type 0} (r : Result T E) (P Q : Type 0) → (P → Q) → OnOk r P → OnOk r Q
on_ok (Ok x) P Q f p = f p
on_ok (Err e) P Q f p = p

-- what holds anyway holds of a result that is Ok
pub on_any : {T E : Type 0} (r : Result T E) (P : Type 0) → P → OnOk r P
on_any (Ok x) P p = p
on_any (Err e) P p = tt

-- the tables of a tally that stays
pub same_tables : (old new : TallyState) → new ≡ old → HasTablesOf old new
same_tables old new same = record {
  clients = ap (λ (t : TallyState). t.clients) same;
  situations = ap (λ (t : TallyState). t.situations) same;
  home = ap (λ (t : TallyState). t.home) same;
}

-- an event that is noted leaves the tables
noted_leaves : (s : Situation) (mark : Mark) (old new : TallyState) → IsNoted s mark old new → HasTablesOf old new
noted_leaves s mark old new (inl x) = x.2.tables
noted_leaves s mark old new (inr x) = x.1.tables

-- they stay whether it was noted or not
pub tables_stay : {T E : Type 0} (r : Result T E) (s : Situation) (mark : Mark) (old new : TallyState) → OnOk r (IsNoted s mark old new)
    → OnErr r (new ≡ old) → HasTablesOf old new
tables_stay (Ok x) s mark old new noted same = noted_leaves s mark old new noted
tables_stay (Err e) s mark old new noted same = same_tables old new same
