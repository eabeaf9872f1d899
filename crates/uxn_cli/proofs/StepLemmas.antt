-- What closes each `?` of a body that asks a tree, and its end.
use Rattle.uxn_cli.proofs.Common.{◌≡◌, Result, Ok, Err, TreeState, Inquiry, Answer, and_then, Inquires, Says, inquires-stop, inquires-more, inquires-last}
use Rattle.uxn_io_traits.specs.declared.halt.Halt.{Halt}
use Rattle.uxn_io_traits.specs.declared.halt.Halt.TheVariants.{NoMemory}

module _ {A B C D E : Type 0} (view : C → A) (last : D → B) (inquiry : Inquiry (Result A E)) (a b : TreeState) (result : Result D (Halt E)) where
  -- the call stopped, or was refused
  pub step-stop : (next : A → Inquiry (Result B E)) (halt : Halt E) → result ≡ Err halt → Inquires view inquiry a b (Err halt)
      → Inquires last (and_then inquiry next) a b result
  step-stop next halt is asks = rw is (inquires-stop view last inquiry next a b halt asks)

  -- it answered, and more follows
  pub step-more : (next : A → Inquiry (Result B E)) (c : TreeState) (value : C) → Inquires view inquiry a b (Ok value)
      → Inquires last (next (view value)) b c result → Inquires last (and_then inquiry next) a c result
  step-more next c value asks rest = inquires-more view last inquiry next a b c value result asks rest

  -- it was the last one
  pub step-last : (next : A → Result B E) (value : C) → Inquires view inquiry a b (Ok value) → Says last (next (view value)) result
      → Inquires last (and_then inquiry (λ x. Answer (next x))) a b result
  step-last next value asks says = inquires-last view last inquiry next a b value result asks says

  -- memory ran out behind it
  pub step-no-memory : (next : A → Result B E) (value : C) → result ≡ Err NoMemory → Inquires view inquiry a b (Ok value)
      → Inquires last (and_then inquiry (λ x. Answer (next x))) a b result
  step-no-memory next value is asks = rw is (inquires-last view last inquiry next a b value (Err NoMemory) asks tt)
