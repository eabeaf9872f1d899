-- Laws of what holds of each element of a list.
use Rattle.std.specs.Prelude.{List, [], ◌∷◌, ◌++◌, map}
use Rattle.std.specs.List.{AllByRecursion}

module _ {A : Type 0} (P : A → Type 0) where
  pub each-of : ((x : A) → P x) → (xs : List A) → AllByRecursion P xs
  each-of all [] = tt
  each-of all (x ∷ xs) = (all x, each-of all xs)

  pub each-append : (first more : List A) → AllByRecursion P first → AllByRecursion P more → AllByRecursion P (first ++ more)
  each-append [] more e f = f
  each-append (x ∷ first) more e f = (e.0, each-append first more e.1 f)

  pub each-parts : (first more : List A) → AllByRecursion P (first ++ more) → AllByRecursion P first × AllByRecursion P more
  each-parts [] more all = (tt, all)
  each-parts (x ∷ first) more all = let rest = each-parts first more all.1 in ((all.0, rest.0), rest.1)

pub each-so : {A : Type 0} (P Q : A → Type 0) (xs : List A) → ((x : A) → P x → Q x) → AllByRecursion P xs → AllByRecursion Q xs
each-so P Q [] so e = tt
each-so P Q (x ∷ xs) so e = (so x e.0, each-so P Q xs so e.1)

pub each-map : {A B : Type 0} (P : B → Type 0) (f : A → B) (xs : List A) → ((x : A) → P (f x)) → AllByRecursion P (map f xs)
each-map P f [] all = tt
each-map P f (x ∷ xs) all = (all x, each-map P f xs all)
