-- Labels in tables, one label or one address more.
use Rattle.std.proofs.Common.{◌≡◌, ◌≢◌, ℕ, zero, suc, ◌+◌, ◌-◌, ◌<◌, ◌≤◌, Bool, true, false, cond, List, [], ◌∷◌, length, drop, get_or, replicate, Option, Some, None}
use Rattle.std.proofs.Common.{refl, ap, sym, ◌∙◌, arith, true≢false}
use Rattle.std.specs.Prelude.{◌==◌, find, slice_get, slice_index, slice_set}
use Rattle.std.specs.Option.{option_map}
use Rattle.std.specs.Str.{bytes_eq}
use Rattle.std.specs.Map.{lookup}
use Rattle.std.proofs.lemmas.Bool.{eqb-true, eqb-false}
use Rattle.std.proofs.lemmas.Bool.Decides.{nat_tests}
use Rattle.std.proofs.lemmas.List.{drop_all, drop_more, get_or-set_same, get_or-set_other, get_or_default, length-replicate, length-set}
use Rattle.std.proofs.lemmas.Option.{slice_get-get_or, slice_get_read}
use Rattle.std.proofs.lemmas.Slice.Eq.{bytes_eq-Decides}
use Rattle.indexmap.specs.IndexMap.{insert_entry}
use Rattle.tal_words.specs.declared.name.Label.{Label}
use Rattle.tal_words.specs.Labels.{address_named}
use Rattle.tal_symbols.specs.Lookups.{labels_up_to, greatest_address, nearest_label}
use Rattle.tal_symbols.specs.Tables.{numbered, label_at, AreFirst, AreNearest, AreAddresses}

abbrev at_address : ℕ → Label → Bool
at_address address label = label.address == address

-- of labels up to an address none lies above it
greatest-within : (labels : List Label) (address : ℕ) → greatest_address (labels_up_to labels address) ≤ address
greatest-within [] address = omega arith
greatest-within (first ∷ labels) address = grind (arith, nat_tests, greatest-within labels address)

-- a label at an address has the greatest of those up to it
greatest-there : (labels : List Label) (address : ℕ) (label : Label) → label_at labels address ≡ Some label → greatest_address (labels_up_to labels address) ≡ address
greatest-there [] address label e = cc
greatest-there (first ∷ labels) address label e =
    grind (arith, nat_tests, greatest-within labels address, greatest-there labels address label)

find-there : (labels : List Label) (address : ℕ) → find (at_address address) (labels_up_to labels address) ≡ label_at labels address
find-there [] address = refl
find-there (first ∷ labels) address = grind (arith, nat_tests, find-there labels address)

-- a label at an address is the nearest
nearest-there : (labels : List Label) (address : ℕ) (label : Label) → label_at labels address ≡ Some label → nearest_label labels address ≡ Some label
nearest-there labels address label e =
    ap (λ top. find (at_address top) (labels_up_to labels address)) (greatest-there labels address label e) ∙ find-there labels address ∙ e

-- where no label is, the nearest is that of the address before
up_to-before : (labels : List Label) (address : ℕ) → label_at labels (suc address) ≡ None → labels_up_to labels (suc address) ≡ labels_up_to labels address
up_to-before [] address e = refl
up_to-before (first ∷ labels) address e = grind (arith, nat_tests, up_to-before labels address)

nearest-before : (labels : List Label) (address : ℕ) → label_at labels (suc address) ≡ None → nearest_label labels (suc address) ≡ nearest_label labels address
nearest-before labels address e = ap (λ (some : List Label). find (at_address (greatest_address some)) some) (up_to-before labels address e)

none-up_to : (labels : List Label) → label_at labels 0 ≡ None → labels_up_to labels 0 ≡ []
none-up_to [] e = refl
none-up_to (first ∷ labels) e = grind (arith, nat_tests, none-up_to labels)

nearest-first : (labels : List Label) (found : Option Label) → label_at labels 0 ≡ found → nearest_label labels 0 ≡ found
nearest-first labels None e = ap (λ (some : List Label). find (at_address (greatest_address some)) some) (none-up_to labels e)
nearest-first labels (Some label) e = nearest-there labels 0 label e

-- a number is put into a table
set-within : (numbers : List ℕ) (place at value most : ℕ) → value ≤ most → ((k : ℕ) → slice_index numbers k ≤ most)
    → slice_index (slice_set numbers place value) at ≤ most
set-within [] place at value most le all = all at
set-within (x ∷ xs) zero zero value most le all = le
set-within (x ∷ xs) zero (suc at) value most le all = all (suc at)
set-within (x ∷ xs) (suc place) zero value most le all = all zero
set-within (x ∷ xs) (suc place) (suc at) value most le all = set-within xs place at value most le (λ k. all (suc k))

read : (numbers : List ℕ) (at value : ℕ) → at < length numbers → value ≡ get_or numbers at value → value ≡ slice_index numbers at
read numbers at value less is = is ∙ get_or_default numbers at value 0 less

-- no number is put yet
zeros : (n at : ℕ) → slice_index (replicate n 0) at ≡ 0
zeros zero at = refl
zeros (suc n) zero = refl
zeros (suc n) (suc at) = zeros n at

pub none_size : (numbers : List ℕ) (n : ℕ) → numbers ≡ replicate n 0 → length numbers ≡ n
none_size numbers n is = ap length is ∙ length-replicate {A = ℕ} n 0

pub none_first : (labels : List Label) (numbers : List ℕ) (n : ℕ) → numbers ≡ replicate n 0 → AreFirst labels (drop (length labels) labels) numbers
none_first labels numbers n is =
    let none : drop (length labels) labels ≡ [] = drop_all (length labels) labels (omega arith) in
    let zero_at : (at : ℕ) → slice_index numbers at ≡ 0 = λ at. ap (λ (xs : List ℕ). get_or xs at 0) is ∙ zeros n at in
    record {
      first = λ at less. ap (λ k. numbered labels k) (zero_at at) ∙ sym (ap (λ (some : List Label). label_at some at) none);
      within = λ at. omega (arith, zero_at at);
    }

-- the number of one label more is put at its address
first_at : (labels rest : List Label) (numbers : List ℕ) (less left at : ℕ) (label : Label) (is : Bool) → (label.address == at) ≡ is → left ≡ suc less
    → slice_get labels less ≡ Some label → label.address < length numbers → numbered labels (slice_index numbers at) ≡ label_at rest at
    → numbered labels (slice_index (slice_set numbers label.address left) at) ≡ cond is (Some label) (label_at rest at)
first_at labels rest numbers less left at label true e next there small before =
    let same : at ≡ label.address = sym (eqb-true label.address at e) in
    let put : slice_index (slice_set numbers label.address left) at ≡ suc less =
    ap (λ k. get_or (slice_set numbers label.address left) k 0) same ∙ get_or-set_same numbers label.address left 0 small ∙ next in
    ap (λ k. numbered labels k) put ∙ there
first_at labels rest numbers less left at label false e next there small before =
    let apart : at ≢ label.address = λ same. eqb-false label.address at e (sym same) in
    ap (λ k. numbered labels k) (get_or-set_other numbers label.address at left 0 apart) ∙ before

put_here : (labels : List Label) (numbers : List ℕ) (less left : ℕ) (label : Label) → left ≡ suc less → left ≤ length labels
    → label ≡ get_or labels less label → label.address < length numbers → AreFirst labels (drop left labels) numbers
    → AreFirst labels (drop less labels) (slice_set numbers label.address left)
put_here labels numbers less left label next le is small before =
    let cut : drop less labels ≡ label ∷ drop left labels =
    drop_more labels less label (omega arith) ∙ ap (λ (l : Label). l ∷ drop (less + 1) labels) (sym is) ∙ ap (λ k. label ∷ drop k labels) (omega arith) in
    record {
      first = λ at inside. first_at labels (drop left labels) numbers less left at label (label.address == at) refl next
          (slice_get_read labels (length labels) less label refl (omega arith) is) small (before.first at (omega (arith, inside, length-set numbers label.address left)))
          ∙ sym (ap (λ (some : List Label). label_at some at) cut);
      within = λ at. set-within numbers label.address at left (length labels) le before.within;
    }

pub put_first : (labels : List Label) (numbers : List ℕ) (less left place : ℕ) (label : Label) → place ≡ label.address → left ≡ suc less → left ≤ length labels
    → label ≡ get_or labels less label → label.address < length numbers → AreFirst labels (drop left labels) numbers
    → AreFirst labels (drop less labels) (slice_set numbers place left)
put_first labels numbers less left place label here next le is small before = rw here (put_here labels numbers less left label next le is small before)

pub all_first : (labels : List Label) (numbers : List ℕ) (left : ℕ) → left < 1 → AreFirst labels (drop left labels) numbers → AreFirst labels labels numbers
all_first labels numbers zero none first = first
all_first labels numbers (suc left) none first = absurd (omega (arith, none))

-- the numbers of the nearest label of each address before one, and from there on of the first
pub record Swept (labels : List Label) (at : ℕ) (numbers : List ℕ) : Type 0 where
  pub nearest : (address : ℕ) → address < at → numbered labels (slice_index numbers address) ≡ nearest_label labels address
  pub first : (address : ℕ) → at ≤ address → address < length numbers → numbered labels (slice_index numbers address) ≡ label_at labels address
  pub within : (address : ℕ) → slice_index numbers address ≤ length labels

begun_at : (labels : List Label) (numbers : List ℕ) → AreFirst labels labels numbers → 0 < length numbers → (address : ℕ) → address < 1
    → numbered labels (slice_index numbers address) ≡ nearest_label labels address
begun_at labels numbers first some zero small = first.first zero some ∙ sym (nearest-first labels (label_at labels zero) refl)
begun_at labels numbers first some (suc address) small = absurd (omega (arith, small))

pub swept_begun : (labels : List Label) (numbers : List ℕ) → AreFirst labels labels numbers → 0 < length numbers → Swept labels 1 numbers
swept_begun labels numbers first some = record {
  nearest = begun_at labels numbers first some;
  first = λ address later inside. first.first address inside;
  within = first.within;
}

-- where no label is, the number of the address before is put
before_put : (labels : List Label) (numbers : List ℕ) (p address : ℕ) (is : Bool) → (address == suc p) ≡ is → address < suc p + 1 → suc p < length numbers
    → slice_index numbers (suc p) ≡ 0 → Swept labels (suc p) numbers
    → numbered labels (slice_index (slice_set numbers (suc p) (slice_index numbers p)) address) ≡ nearest_label labels address
before_put labels numbers p address true e small inside none swept =
    let same : address ≡ suc p = eqb-true address (suc p) e in
    let put = get_or-set_same numbers (suc p) (slice_index numbers p) 0 inside in
    let unlabelled : label_at labels (suc p) ≡ None = sym (swept.first (suc p) (omega arith) inside) ∙ ap (λ k. numbered labels k) none in
    ap (λ k. numbered labels (get_or (slice_set numbers (suc p) (slice_index numbers p)) k 0)) same ∙ ap (λ k. numbered labels k) put
    ∙ swept.nearest p (omega arith) ∙ sym (nearest-before labels p unlabelled) ∙ ap (λ k. nearest_label labels k) (sym same)
before_put labels numbers p address false e small inside none swept =
    let apart : address ≢ suc p = eqb-false address (suc p) e in
    ap (λ k. numbered labels k) (get_or-set_other numbers (suc p) address (slice_index numbers p) 0 apart)
    ∙ swept.nearest address (omega (arith, small, apart))

pub swept_put : (labels : List Label) (numbers : List ℕ) (at value before : ℕ) → 1 ≤ at → at < length numbers → value ≡ get_or numbers at value → value ≡ 0
    → before ≡ get_or numbers (at - 1) before → Swept labels at numbers → Swept labels (at + 1) (slice_set numbers at before)
swept_put labels numbers zero value before some inside is none was swept = absurd (omega (arith, some))
swept_put labels numbers (suc p) value before some inside is none was swept =
    let here : slice_index numbers (suc p) ≡ 0 = sym (read numbers (suc p) value inside is) ∙ none in
    let back : suc p - 1 ≡ p = omega arith in
    let put : before ≡ slice_index numbers p = read numbers p before (omega (arith, inside)) (was ∙ ap (λ k. get_or numbers k before) back) in
    rw put (record {
      nearest = λ address small. before_put labels numbers p address (address == suc p) refl small inside here swept;
      first = λ address later within.
          let apart : address ≢ suc p = omega (arith, later) in
          ap (λ k. numbered labels k) (get_or-set_other numbers (suc p) address (slice_index numbers p) 0 apart)
          ∙ swept.first address (omega (arith, later)) (omega (arith, within, length-set numbers (suc p) (slice_index numbers p)));
      within = λ address. set-within numbers (suc p) address (slice_index numbers p) (length labels) (swept.within p) swept.within;
    })

-- a label at an address stays
is_some : (labels : List Label) (number : ℕ) → 0 < number → number ≤ length labels → (label : Label) × (numbered labels number ≡ Some label)
is_some labels zero some within = absurd (omega (arith, some))
is_some labels (suc index) some within =
    let none : Label = record { name = []; address = 0 } in
    (get_or labels index none, slice_get-get_or labels index none (omega (arith, within)))

kept_at : (labels : List Label) (numbers : List ℕ) (at address : ℕ) (is : Bool) → (address == at) ≡ is → address < at + 1 → at < length numbers
    → 0 < slice_index numbers at → Swept labels at numbers → numbered labels (slice_index numbers address) ≡ nearest_label labels address
kept_at labels numbers at address true e small inside some swept =
    let same : address ≡ at = eqb-true address at e in
    let label = is_some labels (slice_index numbers at) some (swept.within at) in
    let there = swept.first at (omega arith) inside in
    ap (λ k. numbered labels (slice_index numbers k)) same ∙ label.1 ∙ sym (nearest-there labels at label.0 (sym there ∙ label.1))
    ∙ ap (λ k. nearest_label labels k) (sym same)
kept_at labels numbers at address false e small inside some swept = swept.nearest address (omega (arith, small, eqb-false address at e))

pub swept_kept : (labels : List Label) (numbers : List ℕ) (at value : ℕ) → at < length numbers → value ≡ get_or numbers at value → value ≢ 0
    → Swept labels at numbers → Swept labels (at + 1) numbers
swept_kept labels numbers at value inside is some swept =
    let here : slice_index numbers at ≡ value = sym (read numbers at value inside is) in
    record {
      nearest = λ address small. kept_at labels numbers at address (address == at) refl small inside (omega (arith, here, some)) swept;
      first = λ address later within. swept.first address (omega (arith, later)) within;
      within = swept.within;
    }

pub swept_all : (labels : List Label) (numbers : List ℕ) (at : ℕ) → length numbers ≤ at → Swept labels at numbers → AreNearest labels numbers
swept_all labels numbers at all swept = λ address inside. swept.nearest address (omega (arith, all, inside))

-- an entry more in a map from names
both : {A : Type 0} (is : Bool) (x y z : A) → cond is x z ≡ cond is x (cond is y z)
both true x y z = refl
both false x y z = refl

apart : {A : Type 0} (one two : Bool) (x y z : A) → (one ≡ true → two ≡ true → ⊥) → cond one x (cond two y z) ≡ cond two y (cond one x z)
apart true true x y z never = absurd (never refl refl)
apart true false x y z never = refl
apart false true x y z never = refl
apart false false x y z never = refl

abbrev found : {K : Type 0} → (K → List ℕ) → List ℕ → List (K × ℕ) → Option ℕ
found text name entries = lookup (λ key. bytes_eq name (text key)) entries

found_by : {K : Type 0} (text : K → List ℕ) (entries next : List (K × ℕ)) (key : K) (entry : K × ℕ) (value : ℕ) (name : List ℕ) (is : Bool)
    → bytes_eq (text key) (text entry.0) ≡ is
    → found text name next ≡ cond (bytes_eq name (text key)) (Some value) (found text name entries)
    → found text name (cond is ((entry.0, value) ∷ entries) (entry ∷ next)) ≡ cond (bytes_eq name (text key)) (Some value) (found text name (entry ∷ entries))
found_by text entries next key entry value name true e later =
    let same : text entry.0 ≡ text key = sym ((bytes_eq-Decides (text key) (text entry.0)).0 e) in
    let one = bytes_eq name (text key) in
    ap (λ (t : List ℕ). cond (bytes_eq name t) (Some value) (found text name entries)) same
    ∙ both one (Some value) (Some entry.1) (found text name entries)
    ∙ ap (λ (t : List ℕ). cond one (Some value) (cond (bytes_eq name t) (Some entry.1) (found text name entries))) (sym same)
found_by text entries next key entry value name false e later =
    let one = bytes_eq name (text entry.0) in
    let two = bytes_eq name (text key) in
    ap (λ (o : Option ℕ). cond one (Some entry.1) o) later
    ∙ apart one two (Some entry.1) (Some value) (found text name entries)
    (λ here there. true≢false (sym ((bytes_eq-Decides (text key) (text entry.0)).1
    (sym ((bytes_eq-Decides name (text key)).0 there) ∙ (bytes_eq-Decides name (text entry.0)).0 here)) ∙ e))

found-insert : {K : Type 0} (text : K → List ℕ) (eq : K → K → Bool) (entries : List (K × ℕ)) (key : K) (value : ℕ) (name : List ℕ)
    → ((one other : K) → eq one other ≡ bytes_eq (text one) (text other))
    → found text name (insert_entry eq entries key value) ≡ cond (bytes_eq name (text key)) (Some value) (found text name entries)
found-insert text eq [] key value name same = refl
found-insert text eq (entry ∷ entries) key value name same =
    ap (λ is. found text name (cond is ((entry.0, value) ∷ entries) (entry ∷ insert_entry eq entries key value))) (same key entry.0)
    ∙ found_by text entries (insert_entry eq entries key value) key entry value name (bytes_eq (text key) (text entry.0)) refl
    (found-insert text eq entries key value name same)

named-more : (is : Bool) (label : Label) (later : Option Label) → option_map (λ (l : Label). l.address) (cond is (Some label) later)
    ≡ cond is (Some label.address) (option_map (λ (l : Label). l.address) later)
named-more true label later = refl
named-more false label later = refl

pub none_named : {K : Type 0} (text : K → List ℕ) (labels : List Label) (entries : List (K × ℕ)) → entries ≡ [] → AreAddresses text (drop (length labels) labels) entries
none_named text labels entries is = λ name.
    let none : drop (length labels) labels ≡ [] = drop_all (length labels) labels (omega arith) in
    ap (λ es. found text name es) is ∙ sym (ap (λ (some : List Label). address_named some name) none)

pub put_named : {K : Type 0} (text : K → List ℕ) (eq : K → K → Bool) (labels : List Label) (entries new : List (K × ℕ)) (key : K) (less left : ℕ) (label : Label)
    → ((one other : K) → eq one other ≡ bytes_eq (text one) (text other)) → text key ≡ label.name → left ≡ suc less → left ≤ length labels
    → label ≡ get_or labels less label → new ≡ insert_entry eq entries key label.address → AreAddresses text (drop left labels) entries
    → AreAddresses text (drop less labels) new
put_named text eq labels entries new key less left label same named next le is put before = λ name.
    let cut : drop less labels ≡ label ∷ drop left labels =
    drop_more labels less label (omega arith) ∙ ap (λ (l : Label). l ∷ drop (less + 1) labels) (sym is) ∙ ap (λ k. label ∷ drop k labels) (omega arith) in
    ap (λ es. found text name es) put ∙ found-insert text eq entries key label.address name same
    ∙ ap (λ (t : List ℕ). cond (bytes_eq name t) (Some label.address) (found text name entries)) named
    ∙ ap (λ (o : Option ℕ). cond (bytes_eq name label.name) (Some label.address) o) (before name)
    ∙ sym (named-more (bytes_eq name label.name) label (find (λ (l : Label). bytes_eq name l.name) (drop left labels)))
    ∙ sym (ap (λ (some : List Label). address_named some name) cut)

pub all_named : {K : Type 0} (text : K → List ℕ) (labels : List Label) (entries : List (K × ℕ)) (left : ℕ) → left < 1
    → AreAddresses text (drop left labels) entries → AreAddresses text labels entries
all_named text labels entries zero none all = all
all_named text labels entries (suc left) none all = absurd (omega (arith, none))
