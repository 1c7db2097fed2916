-- `jp_open` meets its contract: the value that `pins_opened` makes is moved into the room.
use Rattle.std.proofs.Common.{List, [], ◌∷◌, ◌++◌, refl}
use Rattle.std.proofs.raw_atomic.Walks.{proved}
use base.Fraction.{full_share}
use base.Logic.{SProp, sep, ex, id⊢}
use base.Fml.{ftrue, flft}
use mir.Syntax.{named}
use mir.Val.{Val, vunit}
use contract.Monad.{fact}
use contract.Running.{tables}
use prog.Wp.{WpFn}
use types.Logic.{sem}
use types.Kit.{‵, raw, ◌⊛◌, some, later, prop, at_ret, ◌$◌, ◌∵◌, !, qed, done, move, keep, drop, use1, use2, split, join, feq_i, pick, await, fsplit, regoal, suffices, group, show}
use types.Run.{enter, of_opd, unit_lit, init, stop, no_more, and_then, assigns_last, first, blocks, exec, returns}
use types.ByLocal.{alloc_all, pass_all, free_all, look_at, get, through, sets, lands_as, env}
use borrow.Table.OneValue.{part_in}
use denote.Exit.{yes}
use denote.Laws.{Is, shows}
use denote.RattleType.{owns}
use denote.Builtin.{RefOf}
use denote.Ref.{shr_vals, shr_Tells}
use denote.Signature.{plain, types_at}
use denote.RawPtr.{Ptr, RawPtr, block_ptr, lies_at, room_at, in_a_block, rawptr_vals, rawptr_Tells}
use denote.Steps.{nothing, heard, peeks}
use denote.Triple.Call.{calls_at}
use denote.Triple.Clauses.{lasts, Lasts}
use denote.Triple.Spec.{triple_of}
use denote.Triple.Table.{framed}
use denote.Triple.Walked.{Stays, stay_dropped, Goes-dropped, walk_of, says, ends_at}
use Rattle.std.specs.contracts.alloc.Global.{the_row as Heap}
use Rattle.std.proofs.alloc.Global.TheLaws as heap_laws
use Rattle.tlwire_embed.specs.Opens.{OpensPins}
use Rattle.tlwire_embed.specs.contracts.room.PinsNumbers.{the_row as Num}
use Rattle.tlwire_embed.specs.declared.room.PinsRoom.{PinsRoom}
use Rattle.tlwire_embed.specs.contracts.room.PinsRoom.{the_row as R}
use Rattle.tlwire_embed.proofs.room.PinsRoom.TheLaws.{the_row_laws as laws}
use Rattle.tl_embed.specs.contracts.pins.jp_open as f
use Rattle.tl_embed.specs.contracts.pins.pins_opened as g
use Rattle.tl_embed.proofs.pins.pins_opened.Met.{met}
use Rattle.tl_embed.proofs.pins.jp_open.Statement.{statement}
use Rattle.tl_embed.proofs.pins.jp_open.Code as code

pub jp_open_spec : {M : Type 1} → statement M
jp_open_spec 𝓤 𝓛 𝓜 𝓡 wired =
    let c = f.clauses 𝓛 𝓜.mem 𝓡.returns in
    let numbers_ref = RefOf (0 ∷ []) tt (plain (λ _. Num)) (λ _. tt) in
    let heap_slot = plain (λ _. Heap) in
    let stayed : Stays f.ended.signature.params f.ended.kept = (stay_dropped heap_slot yes, (stay_dropped numbers_ref yes, (stay_dropped (plain (λ _. RawPtr)) yes, tt))) in
    let W = walk_of 𝓛 f.ended stayed c in let 𝓣 = tables 𝓤 𝓛.H 𝓜 𝓡 𝓡.env in
    proved 𝓛 f.ended stayed c 𝓜 𝓡 (Goes-dropped 𝓛 1 heap_slot yes (λ κs x w. refl), (Goes-dropped 𝓛 1 numbers_ref yes (λ κs x w. refl), (Goes-dropped 𝓛 1 (plain (λ _. RawPtr)) yes (λ κs x w. refl), tt)))
    f.Key.name code.function (code.unfolded 𝓤 𝓛.H 𝓜 𝓡 wired)
    (λ κs. ((λ d. heap_laws.lowered d ∷ []), (shr_vals, (rawptr_vals, tt))))
    (λ κs. (heap_laws.lowers.val_is, (shr_Tells (named 0) κs.0 Num, (rawptr_Tells, tt)))) (λ κs qs bounds a gh are.
    let heap = a.0 in let r = a.1.0 in let hs : List Val = heap_laws.lowered heap ∷ [] in
    let y : Ptr → W.Ghost = λ p. ((κs, qs, bounds, (heap, (r, (p, tt))), (hs, (shr_vals r, (rawptr_vals p, tt)))), gh) in
    let room = a.1.1.0 in
    qed 𝓛 (((‵ (flft κs.0 qs.0) ⊛ ‵ ftrue) ⊛ ‵ (owns (types_at f.ended.signature.params κs) a (y room).0.4)) ∷ ‵ (room_at R room) ∷ []) ∵
    split ! $ move ! (1 ∷ []) $ fsplit ! $ move ! (1 ∷ []) $ fsplit ! $ keep ! (4 ∷ 2 ∷ 0 ∷ 3 ∷ []) $
    -- [the room; the heap; the numbers; the token]
    in_a_block ! room (λ p. room_at R p) (id⊢ 𝓤 _) (λ b o e.
    regoal ! (λ p. prop (WpFn 𝓤 𝓛.H 𝓣.C 𝓣.Λ code.function (hs ++ (shr_vals r ++ rawptr_vals p)) (W.post (y p)))) e refl $
    enter ! _ _ _ _ _ $ alloc_all ! (λ l. pass_all ! refl (((heap_laws.the_row_laws.lawful 𝓛).typed heap hs are.0).0, ((tt, tt), ((tt, tt), tt))) $
    let G = triple_of 𝓛 g.signature (g.spec 𝓛 𝓜.mem 𝓡.returns) in
    let z : G.Ghost = ((κs, qs, tt, (heap, (r, tt)), (hs, (shr_vals r, tt))), tt) in
    nothing ! $ move ! (3 ∷ 0 ∷ []) $ join ! $ move ! (2 ∷ 0 ∷ []) $ join ! $ move ! (2 ∷ 0 ∷ []) $ join ! $
    nothing ! $ move ! (1 ∷ 0 ∷ []) $ use2 𝓛 (raw (G.pre z)) (id⊢ 𝓤 _) $
    calls_at ! (framed 𝓤 𝓛.H 𝓜 (tables 𝓤 𝓛.H 𝓜 𝓡 𝓡.env)) G (met 𝓤 𝓛 𝓜 𝓡 (code.calls-tl_embed::pins::pins_opened 𝓡.env wired)) z
    (and_then ! (get ! refl) (and_then ! (get ! refl) (no_more !))) (λ v.
    use1 𝓛 (later (some (λ (x : PinsRoom). ((‵ (flft κs.0 qs.0) ⊛ ‵ ftrue) ⊛ ‵ (R.own_val x (v ∷ []))) ⊛
    some (λ (ws : Lasts g.ended z.0.0 z.0.3). ‵ (lasts g.ended z.0.0 z.0.3 ws) ⊛ raw (fact 𝓤 (OpensPins r.now x)))))) (id⊢ 𝓤 _) $
    await ! tt $ pick ! (λ x. split ! $ split ! $ move ! (2 ∷ []) $ pick ! (λ ws. split ! $ drop ! $ heard ! _ (λ made_so. move ! (1 ∷ []) $
    -- [the value; the token; the room; the locals]
    peeks ! R (Is R) (shows 𝓛 R) x (v ∷ []) (λ is. let typed = ((laws.lawful 𝓛).typed x (v ∷ []) is).0 in
    lands_as ! refl refl typed $
    first ! $ blocks ! $ sets ! (of_opd ! (get ! refl)) refl (tt, tt) $ sets ! (of_opd ! (get ! refl)) refl typed $
    assigns_last ! (of_opd ! (get ! refl)) (through ! refl (stop !)) (init ! 2 refl typed) $
    exec ! 𝓣.C 𝓣.Λ (env code.Mir.locals l) code.Mir.t-3 (at_ret _ (W.post (y (block_ptr b o)))) $
    sets ! (of_opd ! (unit_lit !)) refl (tt, tt) $
    returns ! (look_at ! 0 refl) $ free_all ! refl $
    move ! (2 ∷ 0 ∷ []) $ use2 𝓛 (‵ (lies_at R full_share (block_ptr b o) x)) (part_in 𝓛 R refl full_share x b o v) $
    let Ends : PinsRoom → SProp 𝓤 = λ made. sep 𝓤 (sem 𝓛 (lies_at R full_share (block_ptr b o) made)) (fact 𝓤 (OpensPins r.now made)) in
    use1 𝓛 (raw (ex 𝓤 Ends)) (qed 𝓛 (‵ (lies_at R full_share (block_ptr b o) x) ∷ []) ∵ show ! Ends x $ says ! made_so $ done !) $
    suffices ! _ (ends_at 𝓛 f.ended stayed c (y (block_ptr b o)) vunit tt (tt, (tt, (tt, tt))) (tt, (tt, (tt, tt)))) $
    feq_i ! (List Val) (vunit ∷ []) (vunit ∷ []) refl $ nothing ! $ nothing ! $ join ! $ nothing ! $ join ! $ nothing ! $ join ! $
    move ! (3 ∷ []) $ group ! 3 $ done !))))))))
