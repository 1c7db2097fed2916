-- `jp_see` meets its contract: the judge behind the pointer is lent to `pins_see` for a lifetime that is made for the call, and comes back as that leaves it.
use Rattle.std.proofs.Common.{◌≡◌, ℕ, List, [], ◌∷◌, refl, sym, ap}
use Rattle.std.proofs.raw_atomic.Walks.{proved}
use base.Fraction.{full_share}
use base.Logic.{SProp, sep, ex, id⊢}
use base.Fml.{ftrue, flft, flent}
use mir.Syntax.{named}
use mir.Val.{vptr}
use contract.Monad.{fact}
use contract.Running.{tables}
use prog.Wp.{WpFn}
use types.Logic.{sem}
use types.Kit.{‵, raw, ◌⊛◌, some, later, prop, at_ret, ◌$◌, ◌∵◌, !, qed, done, move, keep, use1, use2, use3, split, join, fsplit, pick, await, regoal, suffices, group, show}
use types.Run.{enter, of_opd, addr, stop, no_more, and_then, first, blocks, exec, returns}
use types.ByLocal.{alloc_all, pass_all, free_all, look_at, get, through, sets, sets_last, lands_as, env}
use types.SemTy.{Body}
use types.Tokens.{lft_new, lft_end}
use denote.Exit.{yes}
use denote.Laws.{Is, shows}
use denote.RattleType.{owns}
use denote.Signature.{plain, types_at}
use denote.Builtin.{RefOf}
use denote.Memory.{mem}
use denote.Ref.{MutBor, MutRef, mut_vals, shr_vals, shr_Tells}
use denote.RawPtr.{Ptr, RawPtr, block_ptr, lies_at, in_a_block, rawptr_vals, rawptr_Tells}
use denote.Lend.{lends_ref, ref_back}
use denote.Steps.{nothing, heard, peeks}
use denote.Triple.Call.{calls_at}
use denote.Triple.Clauses.{lasts, Lasts}
use denote.Triple.Spec.{triple_of}
use denote.Triple.Table.{framed}
use denote.Triple.Walked.{Stays, stay_dropped, Goes-dropped, walk_of, says, ends_at}
use Rattle.tlwire_embed.specs.Opens.{SeesRoom}
use Rattle.tlwire_embed.specs.declared.room.PinsRoom.{PinsRoom}
use Rattle.tlwire_embed.specs.contracts.room.PinsRoom.{the_row as R}
use Rattle.tlwire_embed.specs.contracts.line.PinsLine.{the_row as Req}
use Rattle.tlwire_embed.specs.contracts.verdict.PinsVerdict.{the_row as Ans}
use Rattle.tlwire_embed.specs.declared.verdict.PinsVerdict.{PinsVerdict}
use Rattle.tlwire_embed.proofs.verdict.PinsVerdict.TheLaws.{the_row_laws as answer_laws}
use Rattle.tl_embed.specs.contracts.pins.jp_see as f
use Rattle.tl_embed.specs.contracts.pins.pins_see as g
use Rattle.tl_embed.proofs.pins.pins_see.Met.{met}
use Rattle.tl_embed.proofs.pins.jp_see.Statement.{statement}
use Rattle.tl_embed.proofs.pins.jp_see.Code as code

pub jp_see_spec : {M : Type 1} → statement M
jp_see_spec 𝓤 𝓛 𝓜 𝓡 wired =
    let c = f.clauses 𝓛 𝓜.mem 𝓡.returns in
    let by_ref = RefOf (0 ∷ []) tt (plain (λ _. Req)) (λ _. tt) in
    let stayed : Stays f.ended.signature.params f.ended.kept = (stay_dropped (plain (λ _. RawPtr)) yes, (stay_dropped by_ref yes, tt)) in
    let W = walk_of 𝓛 f.ended stayed c in let 𝓣 = tables 𝓤 𝓛.H 𝓜 𝓡 𝓡.env in
    proved 𝓛 f.ended stayed c 𝓜 𝓡 (Goes-dropped 𝓛 1 (plain (λ _. RawPtr)) yes (λ κs x w. refl), (Goes-dropped 𝓛 1 by_ref yes (λ κs x w. refl), tt))
    f.Key.name code.function (code.unfolded 𝓤 𝓛.H 𝓜 𝓡 wired)
    (λ κs. (rawptr_vals, (shr_vals, tt))) (λ κs. (rawptr_Tells, (shr_Tells (named 0) κs.0 Req, tt))) (λ κs qs bounds a before are.
    let κ = κs.0 in let q = qs.0 in let r = a.1.0 in
    let y : Ptr → W.Ghost = λ p. ((κs, qs, bounds, (p, (r, tt)), (rawptr_vals p, (shr_vals r, tt))), before) in
    qed 𝓛 (((‵ (flft κ q) ⊛ ‵ ftrue) ⊛ ‵ (owns (types_at f.ended.signature.params κs) a (y a.0).0.4)) ∷ ‵ (lies_at R full_share a.0 before) ∷ []) ∵
    split ! $ split ! $ move ! (2 ∷ []) $ fsplit ! $ move ! (1 ∷ []) $ fsplit ! $ keep ! (5 ∷ 0 ∷ 3 ∷ []) $
    -- [the value at the pointer; the request; the request's token]
    in_a_block ! a.0 (λ p. lies_at R full_share p before) (id⊢ 𝓤 _) (λ b o e.
    regoal ! (λ p. prop (WpFn 𝓤 𝓛.H 𝓣.C 𝓣.Λ code.function (Rattle.std.proofs.Common.◌++◌ (rawptr_vals p) (shr_vals r)) (W.post (y p)))) e refl $
    enter ! _ _ _ _ _ $ alloc_all ! (λ l. pass_all ! refl ((tt, tt), ((tt, tt), tt)) $
    -- [the value at the pointer; the request; its token; the locals]
    first ! $ blocks ! $ sets ! (of_opd ! (get ! refl)) refl (tt, tt) $ sets ! (of_opd ! (get ! refl)) refl (tt, tt) $
    sets_last ! (addr ! (through ! refl (stop !))) refl (tt, tt) $
    exec ! 𝓣.C 𝓣.Λ (env code.Mir.locals l) code.Mir.t-2 (at_ret _ (W.post (y (block_ptr b o)))) $
    sets ! (of_opd ! (get ! refl)) refl (tt, tt) $ sets ! (of_opd ! (get ! refl)) refl (tt, tt) $
    lft_new ! tt (λ α. move ! (1 ∷ []) $
    use1 𝓛 (later (some (λ (γ : ℕ). ‵ ((MutRef (named 0) (α ∷ []) R).own_val (record { ref_ptr = (b, o); ghost_name = γ; now = before }) (vptr b o ∷ [])) ⊛ ‵ (flent (α ∷ []) (Body (mem R) b o γ)))))
    (lends_ref 𝓛 R (named 0) (α ∷ []) before b o) $ await ! tt $ pick ! (λ γ. split ! $
    -- [the loan; what the lender keeps; the token of α; the request; its token; the locals]
    let G = triple_of 𝓛 g.signature (g.spec 𝓛 𝓜.mem 𝓡.returns) in
    let loan : MutBor PinsRoom = record { ref_ptr = (b, o); ghost_name = γ; now = before } in
    let z : G.Ghost = (((α ∷ [], (κ, tt)), (full_share, (q, tt)), tt, (loan, (r, tt)), (mut_vals loan, (shr_vals r, tt))), tt) in
    nothing ! $ move ! (4 ∷ 0 ∷ []) $ join ! $ move ! (1 ∷ 0 ∷ []) $ join ! $
    nothing ! $ move ! (4 ∷ 0 ∷ []) $ join ! $ move ! (3 ∷ 0 ∷ []) $ join ! $ join ! $
    nothing ! $ move ! (1 ∷ 0 ∷ []) $ use2 𝓛 (raw (G.pre z)) (id⊢ 𝓤 _) $
    calls_at ! (framed 𝓤 𝓛.H 𝓜 (tables 𝓤 𝓛.H 𝓜 𝓡 𝓡.env)) G (met 𝓤 𝓛 𝓜 𝓡 (code.calls-tl_embed::pins::pins_see 𝓡.env wired)) z
    (and_then ! (get ! refl) (and_then ! (get ! refl) (no_more !))) (λ v.
    use1 𝓛 (later (some (λ (x : PinsVerdict). ((‵ (flft (α ∷ []) full_share) ⊛ ‵ (flft κ q) ⊛ ‵ ftrue) ⊛ ‵ (Ans.own_val x (v ∷ []))) ⊛
    some (λ (ws : Lasts g.ended z.0.0 z.0.3). ‵ (lasts g.ended z.0.0 z.0.3 ws) ⊛ raw (fact 𝓤 (SeesRoom before r.now ws.0 x)))))) (id⊢ 𝓤 _) $
    await ! tt $ pick ! (λ x. split ! $ split ! $ split ! $ lft_end ! tt $
    -- [α is over; the request's token; the answer; the last value and the step; what the lender keeps]
    move ! (3 ∷ []) $ pick ! (λ ws. split ! $ move ! (1 ∷ []) $ heard ! _ (λ step. fsplit ! $ fsplit ! $
    move ! (3 ∷ 6 ∷ 0 ∷ []) $ use3 𝓛 (later (‵ (lies_at R full_share (block_ptr b o) ws.0))) (ref_back 𝓛 R (α ∷ []) γ ws.0 b o) $ await ! tt $
    -- [the value at the pointer; two parts of the loan; the request's token; the answer]
    move ! (4 ∷ 3 ∷ 0 ∷ []) $ peeks ! Ans (Is Ans) (shows 𝓛 Ans) x (v ∷ []) (λ is.
    lands_as ! refl refl ((answer_laws.lawful 𝓛).typed x (v ∷ []) is).0 $
    returns ! (look_at ! 0 refl) $ free_all ! refl $ keep ! (2 ∷ 0 ∷ 1 ∷ []) $
    let Ends : PinsRoom → SProp 𝓤 = λ after. sep 𝓤 (sem 𝓛 (lies_at R full_share (block_ptr b o) after)) (fact 𝓤 (SeesRoom before r.now after x)) in
    use1 𝓛 (raw (ex 𝓤 Ends)) (qed 𝓛 (‵ (lies_at R full_share (block_ptr b o) ws.0) ∷ []) ∵ show ! Ends ws.0 $ says ! step $ done !) $
    suffices ! _ (ends_at 𝓛 f.ended stayed c (y (block_ptr b o)) v x (tt, (tt, tt)) (tt, (tt, tt))) $
    move ! (1 ∷ []) $ nothing ! $ nothing ! $ join ! $ nothing ! $ join ! $ move ! (3 ∷ []) $ group ! 3 $ done !))))))))))
