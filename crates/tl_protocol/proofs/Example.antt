-- The run with each kind of event is one.
use Rattle.std.proofs.Common.{ℕ, zero, suc, ◌<◌, ◌++◌, List, refl, arith, inl, inr}
use Rattle.tl_protocol.specs.declared.event.Event.{Event}
use Rattle.tl_protocol.specs.Example.{EachKindIsARun, two_clients, three_bytes, first_writes, second_reads, both_release, home_writes_back, first_gives_up}
use Rattle.tl_protocol.specs.Protocol.{Block}
use Rattle.tl_protocol.specs.Runs.{IsRunFrom, end_from, at_reset}
use Rattle.tl_protocol.proofs.Runs.{run_joined}

-- what holds of both clients holds of each
both : (P : ℕ → Type 0) → P 0 → P 1 → (x : ℕ) → x < 2 → P x
both P a b zero l = a
both P a b (suc zero) l = b
both P a b (suc (suc x)) l = absurd (omega arith)

-- ## Each part is a run from the end of the one before

-- the blocks after that part
abbrev after_first_writes : ℕ → Block
after_first_writes = end_from two_clients (at_reset two_clients three_bytes) first_writes

-- client 0 reads alone, and stores
first_writes_run : IsRunFrom two_clients (at_reset two_clients three_bytes) first_writes
first_writes_run = (
  (omega arith, (omega arith, (refl, refl))),
  (
    (omega arith, (omega arith, (_, _, refl), refl)),
    (
      (omega arith, ((_, refl), refl, refl)),
      (
        (omega arith, inl refl),
        (
          (omega arith, (_, refl)),
          (
            (omega arith, (omega arith, ((_, refl, both _ (λ n. absurd (n refl)) (λ n. refl)), (_, refl), both _ (refl, refl) (refl, refl), both _ (refl, refl) (refl, refl)))),
            (
              (omega arith, (omega arith, (_, _, _, refl))),
              (
                (omega arith, (omega arith, omega arith)),
                ((omega arith, (omega arith, ((omega arith, omega arith, omega arith), refl))), tt),
              ),
            ),
          ),
        ),
      ),
    ),
  ),
)

-- the blocks after that part
abbrev after_second_reads : ℕ → Block
after_second_reads = end_from two_clients after_first_writes second_reads

-- client 1 reads what client 0 stored
second_reads_run : IsRunFrom two_clients after_first_writes second_reads
second_reads_run = (
  (omega arith, (omega arith, (refl, refl))),
  (
    (omega arith, (omega arith, (_, _, refl), refl)),
    (
      (omega arith, (omega arith, (omega arith, (refl, refl), both _ (refl, refl) (refl, refl)))),
      (
        (omega arith, (omega arith, ((_, _, refl), (λ e. cc)))),
        (
          (omega arith, (omega arith, (_, _, refl))),
          (
            (omega arith, (omega arith, ((_, refl, both _ (λ e. cc) (λ e. cc)), (_, refl), both _ (refl, refl) (refl, refl), both _ (refl, refl) (refl, refl)))),
            (
              (omega arith, (omega arith, (_, _, _, refl))),
              (
                (omega arith, (omega arith, omega arith)),
                ((omega arith, (omega arith, ((omega arith, omega arith, omega arith), (λ e. cc), refl))), tt),
              ),
            ),
          ),
        ),
      ),
    ),
  ),
)

-- the blocks after that part
abbrev after_both_release : ℕ → Block
after_both_release = end_from two_clients after_second_reads both_release

-- both give up
both_release_run : IsRunFrom two_clients after_second_reads both_release
both_release_run = (
  (omega arith, (omega arith, (refl, refl))),
  (
    (omega arith, (omega arith, (_, _, refl))),
    (
      (omega arith, (omega arith, (_, refl))),
      (
        (omega arith, (omega arith, (refl, refl))),
        (
          (omega arith, (omega arith, (_, _, refl))),
          ((omega arith, (omega arith, (_, refl))), tt),
        ),
      ),
    ),
  ),
)

-- the blocks after that part
abbrev after_home_writes_back : ℕ → Block
after_home_writes_back = end_from two_clients after_both_release home_writes_back

-- home writes back
home_writes_back_run : IsRunFrom two_clients after_both_release home_writes_back
home_writes_back_run = (
  (omega arith, ((_, refl, refl), record { nobody = both _ refl refl; no_probe = both _ (refl, refl) (refl, refl); no_grant = both _ (refl, refl) (refl, refl); not_accepted = refl; quiet = refl })),
  (
    (omega arith, inr (_, refl)),
    ((omega arith, refl), tt),
  ),
)

-- client 0 asks again and gives up, and home drops the block
first_gives_up_run : IsRunFrom two_clients after_home_writes_back first_gives_up
first_gives_up_run = (
  (omega arith, (omega arith, (refl, refl))),
  (
    (omega arith, (omega arith, (_, _, refl), refl)),
    (
      (omega arith, ((_, refl), refl, refl)),
      (
        (omega arith, inl refl),
        (
          (omega arith, (_, refl)),
          (
            (omega arith, (omega arith, ((_, refl, both _ (λ n. absurd (n refl)) (λ n. refl)), (_, refl), both _ (refl, refl) (refl, refl), both _ (refl, refl) (refl, refl)))),
            (
              (omega arith, (omega arith, (_, _, _, refl))),
              (
                (omega arith, (omega arith, omega arith)),
                (
                  (omega arith, (omega arith, (refl, refl))),
                  (
                    (omega arith, (omega arith, (_, _, refl))),
                    (
                      (omega arith, (omega arith, (_, refl))),
                      ((omega arith, ((_, refl, refl), record { nobody = both _ refl refl; no_probe = both _ (refl, refl) (refl, refl); no_grant = both _ (refl, refl) (refl, refl); not_accepted = refl; quiet = refl })), tt),
                    ),
                  ),
                ),
              ),
            ),
          ),
        ),
      ),
    ),
  ),
)

-- joined, they are the run
pub each_kind_is_a_run : EachKindIsARun
each_kind_is_a_run =
    let start : ℕ → Block = at_reset two_clients three_bytes in
    let two : List Event = first_writes ++ second_reads in
    let three : List Event = two ++ both_release in
    let four : List Event = three ++ home_writes_back in
    run_joined two_clients start four first_gives_up
    (run_joined two_clients start three home_writes_back
    (run_joined two_clients start two both_release
    (run_joined two_clients start first_writes second_reads first_writes_run second_reads_run) both_release_run)
    home_writes_back_run) first_gives_up_run
