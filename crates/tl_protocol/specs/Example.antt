-- A run in which each kind of event stands (this project's own).
use Rattle.std.specs.Prelude.{ℕ, List, [], ◌∷◌, ◌++◌}
use Rattle.tl_types.specs.declared.permission.Grow.TheVariants.{NtoB, NtoT}
use Rattle.tl_types.specs.declared.permission.Prune.TheVariants.{TtoN, BtoN}
use Rattle.tl_types.specs.declared.permission.ProbeCap.TheVariants.{ToB}
use Rattle.tl_protocol.specs.declared.event.Event.{Event}
use Rattle.tl_protocol.specs.declared.event.Event.TheVariants.{Load, Store, SendAcquire, SendRelease, AnswerProbe, TakeGrant, TakeReleaseAck, AcceptAcquire, SendProbe, TakeC, SendGrant, TakeGrantAck, SendGet, Serve, TakeData, Drop, SendPut, TakePutAck}
use Rattle.tl_protocol.specs.declared.shape.Shape.{Shape}
use Rattle.tl_protocol.specs.Runs.{IsRun}

-- two clients, and one block of eight bytes
abbrev pub two_clients : Shape
two_clients = record { clients = 2; block_bytes = 8; blocks = 1 }

-- the memory's first bytes; the others are 0
abbrev pub three_bytes : List ℕ
three_bytes = 1 ∷ 2 ∷ 3 ∷ []

-- client 0 reads the block, which home gets from the memory; as the only reader it gets Tip, and stores
abbrev pub first_writes : List Event
first_writes =
    SendAcquire 0 0 NtoB ∷ AcceptAcquire 0 0 ∷ SendGet 0 ∷ Serve 0 ∷ TakeData 0 ∷ SendGrant 0 0 ∷ TakeGrant 0 0 ∷ TakeGrantAck 0 0 ∷ Store (record { client = 0; address = 1; bytes = 9 ∷ []; stamp = 0; index = 0 }) ∷ []

-- client 1 reads it too: home probes client 0, which gives its dirty bytes and keeps a copy to read
abbrev pub second_reads : List Event
second_reads =
    SendAcquire 1 0 NtoB ∷ AcceptAcquire 1 0 ∷ SendProbe 0 0 ToB ∷ AnswerProbe 0 0 ∷ TakeC 0 0 ∷ SendGrant 1 0 ∷ TakeGrant 1 0 ∷ TakeGrantAck 1 0 ∷ Load (record { client = 1; address = 1; bytes = 9 ∷ []; stamp = 0; index = 0 }) ∷ []

-- both give their copies up
abbrev pub both_release : List Event
both_release =
    SendRelease 0 0 BtoN ∷ TakeC 0 0 ∷ TakeReleaseAck 0 0 ∷ SendRelease 1 0 BtoN ∷ TakeC 1 0 ∷ TakeReleaseAck 1 0 ∷ []

-- home writes the block back to the memory
abbrev pub home_writes_back : List Event
home_writes_back = SendPut 0 ∷ Serve 0 ∷ TakePutAck 0 ∷ []

-- client 0 asks to write it, gives it up as it was, and home drops its clean copy
abbrev pub first_gives_up : List Event
first_gives_up =
    SendAcquire 0 0 NtoT ∷ AcceptAcquire 0 0 ∷ SendGet 0 ∷ Serve 0 ∷ TakeData 0 ∷ SendGrant 0 0 ∷ TakeGrant 0 0 ∷ TakeGrantAck 0 0 ∷ SendRelease 0 0 TtoN ∷ TakeC 0 0 ∷ TakeReleaseAck 0 0 ∷ Drop 0 ∷ []

-- the whole of it
abbrev pub each_kind : List Event
each_kind = first_writes ++ second_reads ++ both_release ++ home_writes_back ++ first_gives_up

-- it is a run of two clients on a memory of one block
abbrev pub EachKindIsARun : Type 0
EachKindIsARun = IsRun two_clients three_bytes each_kind
