-- `jv_memory` meets its contract: the value behind the pointer is lent to `image` for a lifetime that is made for the call, and comes back as that
-- leaves it; the places for the bytes are handed on, with what they then hold.
use Rattle.std.proofs.Common.{ℕ, [], ◌∷◌, ◌++◌, refl}
use Rattle.std.proofs.raw_atomic.Walks.{proved}
use base.Fraction.{full_share}
use base.Logic.{SProp, sep, ex, id⊢}
use base.Fml.{ftrue, flft, flent}
use mir.Syntax.{named}
use mir.Val.{vptr}
use contract.Monad.{fact}
use contract.Running.{tables}
use prog.Wp.{WpFn}
use types.Logic.{sem}
use types.Kit.{‵, raw, ◌⊛◌, some, later, prop, at_ret, ◌$◌, ◌∵◌, !, qed, done, move, keep, use1, use2, use3, split, join, fsplit, feq_l, pick, await, regoal, suffices, group, show}
use types.Run.{enter, of_opd, addr, fld, from, hop, stop, no_more, and_then, first, blocks, exec, returns}
use types.Part.{agg, sub, whole}
use types.ByLocal.{alloc_all, pass_all, free_all, look_at, look_in_at, get, get_in, through, sets, sets_last, lands_as, env}
use types.SemTy.{Body}
use types.Tokens.{lft_new, lft_end}
use denote.Exit.{yes}
use denote.Laws.{Is, shows}
use denote.RattleType.{owns}
use denote.Signature.{plain, types_at}
use denote.Builtin.{RefOf, u8}
use denote.Memory.{mem}
use denote.Ref.{MutBor, MutRef, mut_vals, shr_vals, shr_Tells}
use denote.Slice.{mut_slice_vals, mut_slice_Tells}
use denote.RawPtr.{Ptr, RawPtr, block_ptr, lies_at, in_a_block, rawptr_vals, rawptr_Tells}
use denote.Lend.{lends_ref, ref_back}
use denote.Steps.{nothing, heard, peeks}
use denote.Triple.Call.{calls_at}
use denote.Triple.Clauses.{lasts, Lasts}
use denote.Triple.Spec.{triple_of}
use denote.Triple.Table.{framed}
use denote.Triple.Walked.{Stays, stay_dropped, gave_slice, Goes-dropped, Goes-gave_slice, walk_of, says, ends_at}
use Rattle.tl_embed.specs.Images.{Images}
use Rattle.tl_embed.specs.declared.cache.Cache.{Cache}
use Rattle.tl_embed.specs.contracts.cache.Cache.{the_row as R}
use Rattle.tl_embed.specs.contracts.request.Request.{the_row as Req}
use Rattle.tl_embed.specs.contracts.answer.Number.{the_row as Num}
use Rattle.tl_embed.specs.declared.answer.Number.{Number}
use Rattle.tl_embed.proofs.answer.Number.TheLaws.{the_row_laws as number_laws}
use Rattle.tl_embed.specs.contracts.export.jv_memory as f
use Rattle.tl_embed.specs.contracts.image.image as g
use Rattle.tl_embed.proofs.image.image.Met.{met}
use Rattle.tl_embed.proofs.export.jv_memory.Statement.{statement}
use Rattle.tl_embed.proofs.export.jv_memory.Code as code

pub jv_memory_spec : {M : Type 1} → statement M
jv_memory_spec 𝓤 𝓛 𝓜 𝓡 wired =
    let c = f.clauses 𝓛 𝓜.mem 𝓡.returns in
    let asked_ref = RefOf (0 ∷ []) tt (plain (λ _. Req)) (λ _. tt) in
    let stayed : Stays f.ended.signature.params f.ended.kept =
    (stay_dropped (plain (λ _. RawPtr)) yes, (stay_dropped asked_ref yes, (gave_slice (1 ∷ []) tt (plain (λ _. u8)), tt))) in
    let W = walk_of 𝓛 f.ended stayed c in let 𝓣 = tables 𝓤 𝓛.H 𝓜 𝓡 𝓡.env in
    proved 𝓛 f.ended stayed c 𝓜 𝓡 (Goes-dropped 𝓛 2 (plain (λ _. RawPtr)) yes (λ κs x w. refl), (Goes-dropped 𝓛 2 asked_ref yes (λ κs x w. refl), (Goes-gave_slice 𝓛 2 1 tt (plain (λ _. u8)), tt)))
    f.Key.name code.function (code.unfolded 𝓤 𝓛.H 𝓜 𝓡 wired)
    (λ κs. (rawptr_vals, (shr_vals, (mut_slice_vals, tt)))) (λ κs. (rawptr_Tells, (shr_Tells (named 0) κs.0 Req, (mut_slice_Tells (named 1) κs.1.0 u8, tt)))) (λ κs qs bounds a before are.
    let r = a.1.0 in let s = a.1.1.0 in
    let y : Ptr → W.Ghost = λ p. ((κs, qs, bounds, (p, (r, (s, tt))), (rawptr_vals p, (shr_vals r, (mut_slice_vals s, tt)))), before) in
    qed 𝓛 (((‵ (flft κs.0 qs.0) ⊛ ‵ (flft κs.1.0 qs.1.0) ⊛ ‵ ftrue) ⊛ ‵ (owns (types_at f.ended.signature.params κs) a (y a.0).0.4)) ∷ ‵ (lies_at R full_share a.0 before) ∷ []) ∵
    split ! $ move ! (1 ∷ []) $ fsplit ! $ move ! (1 ∷ []) $ fsplit ! $ move ! (1 ∷ []) $ fsplit ! $ keep ! (5 ∷ 2 ∷ 0 ∷ 4 ∷ []) $
    -- [the value at the pointer; what is asked; the places; the tokens]
    in_a_block ! a.0 (λ p. lies_at R full_share p before) (id⊢ 𝓤 _) (λ b o e.
    regoal ! (λ p. prop (WpFn 𝓤 𝓛.H 𝓣.C 𝓣.Λ code.function (rawptr_vals p ++ (shr_vals r ++ mut_slice_vals s)) (W.post (y p)))) e refl $
    enter ! _ _ _ _ _ $ alloc_all ! (λ l. pass_all ! refl ((tt, tt), ((tt, tt), ((tt, (tt, (record { fits = are.1.1.0.0.1.0 }, tt))), tt))) $
    -- [the value at the pointer; what is asked; the places; the tokens; the locals]
    first ! $ blocks ! $ sets ! (of_opd ! (get ! refl)) refl (tt, tt) $ sets ! (of_opd ! (get ! refl)) refl (tt, tt) $
    sets_last ! (addr ! (through ! refl (stop !))) refl (tt, tt) $
    exec ! 𝓣.C 𝓣.Λ (env code.Mir.locals l) code.Mir.t-2 (at_ret _ (W.post (y (block_ptr b o)))) $
    sets ! (of_opd ! (get ! refl)) refl (tt, tt) $ sets ! (of_opd ! (get ! refl)) refl (tt, tt) $
    sets ! (addr ! (from ! (fld ! refl (hop ! (look_in_at ! 3 (sub ! 0 refl (whole !))) (stop !))))) refl (tt, tt) $
    sets ! (agg ! (and_then ! (get ! refl) (and_then ! (get_in ! (fld ! refl (stop !)) (sub ! 1 refl (whole !))) (no_more !)))) refl (tt, (tt, (record { fits = are.1.1.0.0.1.0 }, tt))) $
    lft_new ! tt (λ α. move ! (1 ∷ []) $
    use1 𝓛 (later (some (λ (γ : ℕ). ‵ ((MutRef (named 0) (α ∷ []) R).own_val (record { ref_ptr = (b, o); ghost_name = γ; now = before }) (vptr b o ∷ [])) ⊛ ‵ (flent (α ∷ []) (Body (mem R) b o γ)))))
    (lends_ref 𝓛 R (named 0) (α ∷ []) before b o) $ await ! tt $ pick ! (λ γ. split ! $
    -- [the loan; what the lender keeps; the token of α; what is asked; the places; the tokens; the locals]
    let G = triple_of 𝓛 g.signature (g.spec 𝓛 𝓜.mem 𝓡.returns) in
    let loan : MutBor Cache = record { ref_ptr = (b, o); ghost_name = γ; now = before } in
    let z : G.Ghost = (((α ∷ [], (κs.0, (κs.1.0, tt))), (full_share, (qs.0, (qs.1.0, tt))), tt, (loan, (r, (s, tt))), (mut_vals loan, (shr_vals r, (mut_slice_vals s, tt)))), tt) in
    nothing ! $ move ! (5 ∷ 0 ∷ []) $ join ! $ move ! (4 ∷ 0 ∷ []) $ join ! $ move ! (1 ∷ 0 ∷ []) $ join ! $
    move ! (2 ∷ 3 ∷ 0 ∷ []) $ join ! $ join ! $
    nothing ! $ move ! (1 ∷ 0 ∷ []) $ use2 𝓛 (raw (G.pre z)) (id⊢ 𝓤 _) $
    calls_at ! (framed 𝓤 𝓛.H 𝓜 (tables 𝓤 𝓛.H 𝓜 𝓡 𝓡.env)) G (met 𝓤 𝓛 𝓜 𝓡 (code.calls-tl_embed::image::image 𝓡.env wired)) z
    (and_then ! (get ! refl) (and_then ! (get ! refl) (and_then ! (get ! refl) (no_more !)))) (λ v.
    use1 𝓛 (later (some (λ (x : Number). ((‵ (flft (α ∷ []) full_share) ⊛ ‵ (flft κs.0 qs.0) ⊛ ‵ (flft κs.1.0 qs.1.0) ⊛ ‵ ftrue) ⊛ ‵ (Num.own_val x (v ∷ []))) ⊛
    some (λ (ws : Lasts g.ended z.0.0 z.0.3). ‵ (lasts g.ended z.0.0 z.0.3 ws) ⊛ raw (fact 𝓤 (Images before r.now s.now ws.0 ws.1.1.0 x)))))) (id⊢ 𝓤 _) $
    await ! tt $ pick ! (λ x. split ! $ split ! $ split ! $ lft_end ! tt $
    -- [α is over; the tokens; the result; the last values and the fact; what the lender keeps]
    move ! (3 ∷ []) $ pick ! (λ ws. split ! $ move ! (1 ∷ []) $ heard ! _ (λ step. fsplit ! $ fsplit ! $
    move ! (3 ∷ 6 ∷ 0 ∷ []) $ use3 𝓛 (later (‵ (lies_at R full_share (block_ptr b o) ws.0))) (ref_back 𝓛 R (α ∷ []) γ ws.0 b o) $ await ! tt $
    -- [the value at the pointer; a part of the loan; what is left of the rest; the tokens; the result]
    move ! (2 ∷ []) $ fsplit ! $ move ! (1 ∷ []) $ fsplit ! $ fsplit ! $ fsplit ! $ move ! (1 ∷ []) $ feq_l ! (λ len.
    -- [the last values of the places; their borrow; two of nothing; the value at the pointer; a part of the loan; the tokens; the result]
    move ! (7 ∷ 6 ∷ 4 ∷ 0 ∷ 1 ∷ []) $ peeks ! Num (Is Num) (shows 𝓛 Num) x (v ∷ []) (λ is.
    lands_as ! refl refl ((number_laws.lawful 𝓛).typed x (v ∷ []) is).0 $
    returns ! (look_at ! 0 refl) $ free_all ! refl $ keep ! (2 ∷ 0 ∷ 1 ∷ 3 ∷ 4 ∷ []) $
    let Ends : Cache → SProp 𝓤 = λ after. sep 𝓤 (sem 𝓛 (lies_at R full_share (block_ptr b o) after)) (fact 𝓤 (Images before r.now s.now after ws.1.1.0 x)) in
    use1 𝓛 (raw (ex 𝓤 Ends)) (qed 𝓛 (‵ (lies_at R full_share (block_ptr b o) ws.0) ∷ []) ∵ show ! Ends ws.0 $ says ! step $ done !) $
    suffices ! _ (ends_at 𝓛 f.ended stayed c (y (block_ptr b o)) v x (tt, (tt, (ws.1.1.0, tt))) (tt, (tt, (len, tt)))) $
    move ! (3 ∷ 4 ∷ []) $ join ! $ nothing ! $ move ! (1 ∷ 0 ∷ []) $ join ! $ nothing ! $ join ! $ nothing ! $ join ! $
    move ! (3 ∷ 0 ∷ 2 ∷ []) $ group ! 3 $ done !)))))))))))
