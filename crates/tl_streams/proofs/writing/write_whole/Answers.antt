use Rattle.std.proofs.Common.{◌≡◌, ℕ, List, ◌++◌, ◌-◌, length, take, drop, sym, ap, ◌∙◌, append_assoc, take-append-drop}
use Rattle.std.proofs.KnownBytes.{Appends-trans, Appends-kept}
use Rattle.std.proofs.lemmas.List.{take_rest}
use Rattle.tl_streams.proofs.writing.write_whole.Goals as goal
use Rattle.tl_streams.proofs.writing.write_whole.Goals.{in-Ok, in-Err+else-ne}

-- the first n bytes of the rest join what was written
moved :
    (text done rest : List ℕ) (n : ℕ) → text ≡ done ++ rest
    → text ≡ (done ++ take n rest) ++ take (length rest - n) (drop n rest)
moved text done rest n split =
    split ∙ ap (λ l. done ++ l) (sym (take-append-drop n rest)) ∙ sym (append_assoc done (take n rest) (drop n rest))
    ∙ ap (λ l. (done ++ take n rest) ++ l) (sym (take_rest rest n))

pub loop-preserved : goal.loop-preserved
loop-preserved g c =
    let (done, split, appended) = c.loop.invariant in
    let rest = c.loop.rest.now in
    elim c.match-write.branch [
      | in-Ok w ↦ (
        done ++ take w.in-Ok.taken rest,
        rw w.rest-is (moved _ done rest w.in-Ok.taken split),
        Appends-trans _ _ _ _ _ appended w.in-Ok.ensures.bytes,
      )
      | in-Err+else-ne w ↦ (done, rw w.rest-is split, Appends-kept _ _ _ _ appended w.in-Err.ensures.bytes)
    ]
