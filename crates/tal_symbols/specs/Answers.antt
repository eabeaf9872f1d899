-- What reading a symbol file answers, and what that means.
use Rattle.std.specs.Prelude.{◌≡◌, ℕ, ◌+◌, ◌<◌, ◌≤◌, true, ◌==◌, List, [], ◌∷◌, ◌++◌, length}
use Rattle.std.specs.Prelude.{min, Some, Result, Ok, Err}
use Rattle.std.specs.Prelude.{codes}
use Rattle.std.specs.List.{position_or_len}
use Rattle.std.specs.Global.{Vec}
use Rattle.tal_words.specs.declared.name.Label.{Label}
use Rattle.tal_symbols.specs.declared.stop.SymbolKind.{SymbolKind}
use Rattle.tal_symbols.specs.declared.stop.SymbolKind.TheVariants.{Long}
use Rattle.tal_symbols.specs.declared.stop.SymbolKind.TheVariants as kind
use Rattle.tal_symbols.specs.declared.stop.SymbolStop.{SymbolStop}
use Rattle.tal_symbols.specs.declared.stop.SymbolStop.TheVariants.{Refused, NoMemory}
use Rattle.uxn_limits.specs.declared.limits.TheConstants.{SYMBOLS_LIMIT}
use Rattle.tal_symbols.specs.SymbolFile.{symbol_file, are_readable}
use Rattle.tal_symbols.specs.Reading.{Refusal, entry_fault}

-- the name of a kind, as it is printed
abbrev pub symbol_kind_name : SymbolKind → List ℕ
symbol_kind_name kind.Torn = codes "Torn"
symbol_kind_name kind.NoName = codes "NoName"
symbol_kind_name kind.BadByte = codes "BadByte"
symbol_kind_name kind.Long = codes "Long"

-- the answer is what is found in a file, labels or why it is refused; running out of memory is free
abbrev pub ReadsSymbols : Result (List Label) Refusal → Result (Vec Label) SymbolStop → Type 0
ReadsSymbols found (Ok labels) = found ≡ Ok labels.items
ReadsSymbols found (Err (Refused entry kind)) = found ≡ Err (record { entry = entry; kind = kind })
ReadsSymbols found (Err NoMemory) = Unit {0}

-- bytes are the entries of so many labels that can be read back, and behind them begins an entry with this fault
pub record StopsAtEntry (bytes : List ℕ) (entry : ℕ) (kind : SymbolKind) : Type 0 where
  pub prefix : List Label
  pub rest : List ℕ
  pub parts : bytes ≡ symbol_file prefix ++ rest
  pub readable : are_readable prefix ≡ true
  pub number : entry ≡ length prefix
  pub begins : 0 < length rest
  pub fault : entry_fault rest ≡ Some kind

-- why a file is refused: as a whole where it is over the limit, and else at its first entry that no such label has
abbrev pub IsRefusedAtEntry : List ℕ → ℕ → SymbolKind → Type 0
IsRefusedAtEntry bytes entry Long = (SYMBOLS_LIMIT < length bytes) × (entry ≡ 0)
IsRefusedAtEntry bytes entry kind = (length bytes ≤ SYMBOLS_LIMIT) × StopsAtEntry bytes entry kind

-- labels that can be read back and whose symbol file the bytes are
pub record AreLabelsOf (bytes : List ℕ) (labels : List Label) : Type 0 where
  pub short : length bytes ≤ SYMBOLS_LIMIT
  pub readable : are_readable labels ≡ true
  pub written : symbol_file labels ≡ bytes

-- the answer is such labels, or why the file is refused; running out of memory is free
abbrev pub AreLabelsRead : List ℕ → Result (Vec Label) SymbolStop → Type 0
AreLabelsRead bytes (Ok labels) = AreLabelsOf bytes labels.items
AreLabelsRead bytes (Err (Refused entry kind)) = IsRefusedAtEntry bytes entry kind
AreLabelsRead bytes (Err NoMemory) = Unit {0}

-- how many bytes the first entry of a file has
abbrev pub entry_length : List ℕ → ℕ
entry_length [] = 0
entry_length (high ∷ []) = 1
entry_length (high ∷ low ∷ text) = 2 + min (position_or_len (λ byte. byte == 0) text + 1) (length text)
