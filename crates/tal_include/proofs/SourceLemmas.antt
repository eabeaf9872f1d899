-- What a source results in, by what splicing it results in.
use Rattle.std.proofs.Common.{◌≡◌, List, ℕ, true, false, Option, Some, None, Result, Ok, Err, sym, subst}
use Rattle.std.specs.Prelude.{IsSome, IfSome, IfOk, is_none}
use Rattle.std.proofs.lemmas.Bool.{and_parts}
use Rattle.uxn_io_traits.specs.State.{TreeState}
use Rattle.uxn_io_traits.specs.declared.halt.Halt.{Halt}
use Rattle.uxn_io_traits.specs.declared.halt.Halt.TheVariants.{Refused, TreeFault, NoMemory}
use Rattle.uxn_io_traits.specs.Along.{Always}
use Rattle.uxn_io_traits.specs.Inquiry.{Answer}
use Rattle.uxn_io_traits.specs.InquiryLaws.{always-mapped}
use Rattle.uxn_io_traits.specs.Inquires.{Inquires, Says, halt_as}
use Rattle.uxn_io_traits.specs.AskingLaws.{inquires-as, inquires-stop, inquires-last, inquires-said, inquires-no-memory}
use Rattle.tal_words.specs.declared.span.Word.{Word}
use Rattle.tal_words.specs.declared.fault.Fault.{Fault}
use Rattle.tal_words.specs.Comments.{word_fault}
use Rattle.tal_rom.specs.Assembly.{first_fault}
use Rattle.tal_include.specs.declared.faults.IncludeFault.{IncludeFault}
use Rattle.tal_include.specs.Flat.{Flat, origin_at}
use Rattle.tal_include.specs.FlatWords.{HasItsWords}
use Rattle.tal_include.specs.Splice.{has_includes, is_spliced, splice_inquiry}
use Rattle.tal_include.proofs.FlatWordLemmas.{spliced_words}
use Rattle.tal_include.specs.declared.source_fault.SourceFault.{SourceFault}
use Rattle.tal_include.specs.Sources.{SourceView, sourced_of, source_inquiry, spliced_inquiry, include_source_fault, met_fault, flat_answer, own_answer, HasOrigin}
use Rattle.tal_rom.specs.FaultWordLaws.{IsAt, fault_at_word}

module _ (main source : List ℕ) (a : TreeState) where
  -- a source that is not spliced
  pub by-itself : (r : Result SourceView (Halt SourceFault)) → false ≡ is_spliced source
      → Says sourced_of (own_answer source) r
      → Inquires sourced_of (source_inquiry main source) a a r
  unfolding source_inquiry
  by-itself r own says = let no = sym own in rw no (inquires-said sourced_of (own_answer source) a r says)

  -- or is
  pub by-files : (b : TreeState) (r : Result SourceView (Halt SourceFault)) → is_spliced source ≡ true
      → Inquires sourced_of (spliced_inquiry main source) a b r
      → Inquires sourced_of (source_inquiry main source) a b r
  unfolding source_inquiry
  by-files b r is p = rw is p

  module _ (b : TreeState) where
    pub flat-halted : (halt : Halt IncludeFault) → Inquires (λ (flat : Flat). flat) (splice_inquiry main source) a b (Err halt)
        → Inquires sourced_of (spliced_inquiry main source) a b (Err (halt_as (met_fault main) halt))
    flat-halted halt p =
        inquires-stop (λ (flat : Flat). flat) sourced_of _ (λ flat. Answer (flat_answer main flat)) a b (halt_as (met_fault main) halt)
        (inquires-as (met_fault main) (λ (flat : Flat). flat) (splice_inquiry main source) a b (Err halt) p)

    pub flat-refused : (fault : IncludeFault) (word : List ℕ) (stop : Halt SourceFault) → word ≡ fault.word.items
        → Says sourced_of (Err (include_source_fault main fault.origin fault.kind word)) (Err stop)
        → Inquires (λ (flat : Flat). flat) (splice_inquiry main source) a b (Err (Refused fault))
        → Inquires sourced_of (spliced_inquiry main source) a b (Err stop)
    flat-refused fault word (Refused met) is_word says p =
        let met_here : met_fault main fault ≡ met = cc in
        subst (λ found. Inquires sourced_of (spliced_inquiry main source) a b (Err (Refused found))) met_here (flat-halted (Refused fault) p)
    flat-refused fault word TreeFault is_word says p = elim says [ ]
    flat-refused fault word NoMemory is_word says p = inquires-no-memory sourced_of sourced_of _ _ _ _ (flat-halted (Refused fault) p)

    pub flat-answered : (flat : Flat) (r : Result SourceView (Halt SourceFault))
        → Inquires (λ (flat : Flat). flat) (splice_inquiry main source) a b (Ok flat)
        → Says sourced_of (flat_answer main flat) r
        → Inquires sourced_of (spliced_inquiry main source) a b r
    flat-answered flat r p says =
        inquires-last (λ (flat : Flat). flat) sourced_of _ (λ flat. flat_answer main flat) a b flat r
        (inquires-as (met_fault main) (λ (flat : Flat). flat) (splice_inquiry main source) a b (Ok flat) p) says

at_origin : (flat : Flat) (fault : Option Fault) → IfSome fault (IsAt (λ (word : Word). IsSome (origin_at flat word.span.start)))
    → IfSome fault (λ found. IsSome (origin_at flat found.at))
at_origin flat None is = tt
at_origin flat (Some fault) is = subst (λ (at : ℕ). IsSome (origin_at flat at)) is.start is.holds

-- a fault of a flat text has an origin
pub has_origins : (main source : List ℕ) → is_spliced source ≡ true
    → Always (λ answer. IfOk answer HasOrigin) (splice_inquiry main source)
has_origins main source spliced = always-mapped _ _ (splice_inquiry main source) by (spliced_words main source)
  where
    by : (answer : Result Flat IncludeFault) → IfOk answer (HasItsWords source) → IfOk answer HasOrigin
    by (Ok flat) has =
        let includes = (and_parts (is_none (word_fault source)) (has_includes source) spliced).1 in
        at_origin flat (first_fault flat.text)
        (fault_at_word (λ (word : Word). IsSome (origin_at flat word.span.start)) flat.text has.origins (has.faultless (has.short includes)))
    by (Err fault) has = tt
