-- The five channels of a link (TileLink 1.8, section 3).
use Rattle.std.specs.Prelude.{ℕ, List, ◌==◌, Bool, codes}
use Rattle.tl_types.specs.declared.channel.Channel.{Channel}
use Rattle.tl_types.specs.declared.channel.Channel.TheVariants.{A, B, C, D, E}

-- a channel's place among the five
abbrev pub channel_index : Channel → ℕ
channel_index A = 0
channel_index B = 1
channel_index C = 2
channel_index D = 3
channel_index E = 4

-- the letter that it prints as
abbrev pub letter_of : Channel → List ℕ
letter_of A = codes "A"
letter_of B = codes "B"
letter_of C = codes "C"
letter_of D = codes "D"
letter_of E = codes "E"

-- whether two channels are one
abbrev pub same_channel : Channel → Channel → Bool
same_channel k l = channel_index k == channel_index l
