-- What is known of full names: the addresses of those that are defined, and the references that wait for the others.
use Rattle.std.specs.Prelude.{ℕ, List, [], Option, Some, None}
use Rattle.std.specs.Str.{bytes_eq}
use Rattle.std.specs.Map.{lookup}
use Rattle.tal_rom.specs.declared.hole.Hole.{Hole}
use Rattle.tal_rom.specs.declared.hole.Named.{Named}
use Rattle.tal_rom.specs.declared.names.Names.{Names}

-- what names have at a full name
abbrev pub found_in : Names → List ℕ → Option Named
found_in names name = lookup (λ key. bytes_eq name key.items) names.entries.entries

-- the address, where it is defined
abbrev pub known_address : Option Named → Option ℕ
known_address (Some named) = named.address
known_address None = None

-- the references that wait for it, in order
abbrev pub wanted_of : Option Named → List Hole
wanted_of (Some named) = named.holes.items
wanted_of None = []

abbrev pub known_in : Names → List ℕ → Option ℕ
known_in names name = known_address (found_in names name)

abbrev pub wanted_in : Names → List ℕ → List Hole
wanted_in names name = wanted_of (found_in names name)
