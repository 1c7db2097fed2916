-- How an agent's round goes on, where each ticket may be asked twice.
use Rattle.std.proofs.Common.{◌≡◌, List, [], ◌∷◌, ◌++◌, Bool, false, refl, sym, subst, inl, inr}
use Rattle.tl_types.specs.declared.ticket.Ticket.{Ticket}
use Rattle.tl_client_ports.specs.Ports.{asked}
use Rattle.tl_client.specs.Agents.{AreAsked, IsAsked, NoneServed}
use Rattle.tl_client.specs.Rounds.{Goes}
use Rattle.tl_client_mail.specs.Rounds.{Round, all_of, is_barred, once_asked}
use Rattle.tl_client_ports.specs.declared.port.Asked.{Asked}
use Rattle.tl_client.proofs.ServeLaws.{Passed, Went, went-all, went-asked, went-passed}

-- one more ticket was asked, by one call or two
asked-more : (all : List Asked) (one : Asked) (old between new : List Asked) → AreAsked all old between → IsAsked one between new
    → AreAsked (all ++ one ∷ []) old new
asked-more [] one old between new are is = (new, subst (λ (b : List Asked). IsAsked one b new) are is, refl)
asked-more (a ∷ rest) one old between new are is = (are.0, are.1, asked-more rest one are.0 between new are.2 is)

-- of all tickets, each of which may be asked twice, some were gone over
abbrev pub WentTwice : List Ticket → List Asked → Round → List Asked → Type 0
WentTwice all before w after = (told : List Asked) × AreAsked told before after × Went all [] w told

-- such a round that passes over tickets
pub twice-passed : (all : List Ticket) (before after : List Asked) (old new : Round) → WentTwice all before old after → all_of new ≡ all_of old
    → Passed old new → WentTwice all before new after
twice-passed all before after old new w order p = (w.0, w.1, went-passed all [] w.0 old new w.2 order p)

-- such a round whose next ticket is served or refused
pub twice-asked : (all : List Ticket) (before after new : List Asked) (w : Round) (t : Ticket) (served : Bool) → WentTwice all before w after
    → (is_barred w.kept t ≡ false) × ((later : List Ticket) × (w.rest ≡ t ∷ later)) → IsAsked (asked t served) after new
    → WentTwice all before (once_asked served w) new
twice-asked all before after new w t served went next is = (
  went.0 ++ asked t served ∷ [],
  asked-more went.0 (asked t served) before after new went.1 is,
  went-asked all [] went.0 (went.0 ++ asked t served ∷ []) w t served went.2 next refl,
)

-- such a round that has come to the end
pub twice-all : (all : List Ticket) (before after : List Asked) (w : Round) → WentTwice all before w after → w.rest ≡ []
    → (told : List Asked) × AreAsked told before after × Goes [] all told (all_of w)
twice-all all before after w went none =
    let goes : (more : List Asked) × (went.0 ≡ [] ++ more) × Goes [] all more (all_of w) = went-all all [] went.0 w went.2 none in
    (went.0, went.1, subst (λ (m : List Asked). Goes [] all m (all_of w)) (sym goes.1) goes.2)

-- of some calls, and more behind them, none served its ticket: so did none of the first
pub none-first : (first more : List Asked) → NoneServed (first ++ more) → NoneServed first
none-first [] more none = tt
none-first (a ∷ rest) more none = (none.0, none-first rest more none.1)

-- nor did the last
pub none-last : (first : List Asked) (one : Asked) → NoneServed (first ++ one ∷ []) → one.served ≡ false
none-last [] one none = none.0
none-last (a ∷ rest) one none = none-last rest one none.1

-- where one more ticket was asked, by one call or two, and no call served its ticket, none did before, and the ticket was refused
pub none-asked : (one : Asked) (old new : List Asked) → IsAsked one old new → NoneServed new → NoneServed old × (one.served ≡ false)
none-asked one old new (inl is) none =
    let all : NoneServed (old ++ one ∷ []) = subst (λ (calls : List Asked). NoneServed calls) is none in
    (none-first old (one ∷ []) all, none-last old one all)
none-asked one old new (inr is) none =
    let twice : List Asked = old ++ asked one.ticket false ∷ [] in
    let all : NoneServed (twice ++ one ∷ []) = subst (λ (calls : List Asked). NoneServed calls) is none in
    (none-first old (asked one.ticket false ∷ []) (none-first twice (one ∷ []) all), none-last twice one all)
