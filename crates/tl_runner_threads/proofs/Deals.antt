-- Rows of passes and seats that are made and dealt out.
use Rattle.std.proofs.Common.{ℕ, List, [], ◌∷◌, ◌++◌}
use Rattle.tl_runner_threads.specs.declared.mailbox.Mailbox.{Mailbox}
use Rattle.tl_runner_threads.specs.declared.mailbox.Keys.{Keys}
use Rattle.tl_runner_threads.specs.Keys.{Fits, FitEach}

-- one mailbox more, with its row
pub fit_more :
    (n : ℕ) (ms : List Mailbox) (rs : List Keys) (m : Mailbox) (r : Keys)
    → FitEach n ms rs → Fits n m r → FitEach n (ms ++ m ∷ []) (rs ++ r ∷ [])
fit_more n [] [] m r h fit = (fit, tt)
fit_more n (x ∷ ms) (y ∷ rs) m r h fit = (h.0, fit_more n ms rs m r h.1 fit)
fit_more n [] (y ∷ rs) m r h fit = absurd h
fit_more n (x ∷ ms) [] m r h fit = absurd h
