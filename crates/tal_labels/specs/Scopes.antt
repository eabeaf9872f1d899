-- What a scope that is kept represents.
use Rattle.std.specs.Prelude.{ℕ, List, Option, Some, None}
use Rattle.tal_words.specs.declared.span.Span.{Span}
use Rattle.tal_words.specs.Source.{bytes_at}
use Rattle.tal_words.specs.Names.{first_scope}
use Rattle.tal_labels.specs.declared.scope.Scope.{Scope}

-- the bytes of a part of the source, or those of the first scope
abbrev pub scope_bytes : List ℕ → Option Span → List ℕ
scope_bytes source None = first_scope
scope_bytes source (Some span) = bytes_at source span

abbrev pub scope_text : List ℕ → Scope → List ℕ
scope_text source scope = scope_bytes source scope.span
