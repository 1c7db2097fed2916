-- The numbers of a script (this project's own format).
use Rattle.std.specs.Prelude.{ℕ, ◌==◌, ◌||◌, nat_lt, ℤ, pos, negsuc, unsigned_abs, Bool, false, Option, Some, None, Result, Ok, Err, if◌then◌else◌}
use Rattle.toml.specs.Data.{Members}
use Rattle.tl_map.specs.declared.numbers.GeometryError.{GeometryError}
use Rattle.tl_map.specs.declared.numbers.GeometryNumbers.{GeometryNumbers}
use Rattle.tl_map.specs.Numbers.{Numbers}
use Rattle.tl_map.specs.Refusals.{refusal_of}
use Rattle.tl_script.specs.declared.key.Key.TheVariants as key
use Rattle.tl_script.specs.declared.error.ScriptError.{ScriptError}
use Rattle.tl_script.specs.declared.error.ScriptError.TheVariants as error
use Rattle.tl_script.specs.Each.{◌>>=◌}
use Rattle.tl_script.specs.Document.{or_missing, integer_at}

-- 1 or 2
abbrev pub is_version : ℤ → Bool
is_version (pos n) = n == 1 || n == 2
is_version (negsuc n) = false

-- the version of a script
unfoldable pub version_of : Members → Result ℤ ScriptError
version_of document = do
  n ← integer_at key.Version document
  if is_version n then Ok n else Err (error.Missing key.Version)

-- the numbers of the geometry, as the document gives them
unfoldable pub numbers_of : Members → Result GeometryNumbers ScriptError
numbers_of document = do
  version ← version_of document
  clients ← integer_at key.Clients document
  banks ← integer_at key.Banks document
  block_bytes ← integer_at key.BlockBytes document
  sets ← integer_at key.Sets document
  ways ← integer_at key.Ways document
  registers ← integer_at key.Registers document
  copies ← integer_at key.Copies document
  memory_blocks ← integer_at key.MemoryBlocks document
  Ok (record { version = version; clients = clients; banks = banks; block_bytes = block_bytes; sets = sets; ways = ways; registers = registers; copies = copies; memory_blocks = memory_blocks })

-- the turns, from 1 to 1,000,000
abbrev pub turns_in : ℤ → Option ℕ
turns_in (pos n) = if nat_lt n 1 || nat_lt 1000000 n then None else Some n
turns_in (negsuc n) = None

-- how many turns a thread makes at most
unfoldable pub turns_of : Members → Result ℕ ScriptError
turns_of document = do
  n ← integer_at key.Turns document
  or_missing key.Turns (turns_in n)

-- the numbers without their signs
abbrev pub unsigned_of : GeometryNumbers → Numbers
unsigned_of n = record {
  version = unsigned_abs n.version;
  clients = unsigned_abs n.clients;
  banks = unsigned_abs n.banks;
  block_bytes = unsigned_abs n.block_bytes;
  sets = unsigned_abs n.sets;
  ways = unsigned_abs n.ways;
  registers = unsigned_abs n.registers;
  copies = unsigned_abs n.copies;
  memory_blocks = unsigned_abs n.memory_blocks;
}

-- the numbers, where nothing refuses them
abbrev pub unless_refused : Option GeometryError → Numbers → Result Numbers ScriptError
unless_refused None numbers = Ok numbers
unless_refused (Some cause) numbers = Err (error.Geometry cause)

-- the geometry that the numbers make
unfoldable pub geometry_of : GeometryNumbers → Result Numbers ScriptError
geometry_of numbers = unless_refused (refusal_of numbers) (unsigned_of numbers)
