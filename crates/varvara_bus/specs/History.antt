-- What was stored in the ports (Varvara device reference).
use Rattle.std.specs.Prelude.{ℕ, zero, suc, ◌+◌, ◌*◌, ◌==◌, List, [], ◌∷◌, if◌then◌else◌}
use Rattle.console_port.specs.Console.{event_byte}
use Rattle.console_port.specs.declared.EventKind.TheVariants.{Input}
use Rattle.uxn_limits.specs.declared.ports.TheConstants.{CONSOLE_TYPE}

-- a byte stored in a port
abbrev pub Store : Type 0
Store = ℕ × ℕ

-- the bytes stored so far, the newest first
abbrev pub History : Type 0
History = List Store

-- what a port holds before anything was stored in it: ports 22 to 25 hold the size of the screen, 512 by 320
abbrev pub at_first : ℕ → ℕ
at_first port = if port == 0x22 then 0x02 else if port == 0x24 then 0x01 else if port == 0x25 then 0x40 else 0

-- the byte that was last stored in a port
abbrev pub stored : History → ℕ → ℕ
stored [] port = at_first port
stored (store ∷ earlier) port = if port == store.0 then store.1 else stored earlier port

-- the short in a port and the next one, its high byte first
abbrev pub stored_short : History → ℕ → ℕ
stored_short history port = stored history port * 256 + stored history (port + 1)

-- the bytes of the shorts of red, green and blue
abbrev pub colour_bytes : History → List ℕ
colour_bytes history =
    stored history 0x08 ∷ stored history 0x09 ∷ stored history 0x0a
    ∷ stored history 0x0b ∷ stored history 0x0c ∷ stored history 0x0d ∷ []

-- bytes stored one after the other
abbrev pub stored_after : History → List Store → History
stored_after history [] = history
stored_after history (store ∷ stores) = stored_after (store ∷ history) stores

-- what is stored before the reset vector, by how many arguments will come: where some will, port 17 holds the kind of input
abbrev pub made_ready : ℕ → List Store
made_ready zero = []
made_ready (suc more) = (CONSOLE_TYPE, event_byte Input) ∷ []
