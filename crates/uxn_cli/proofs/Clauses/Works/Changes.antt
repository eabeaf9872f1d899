-- What holds of each change of an outcome; and that making the outputs leaves the root as it was.
pub mod Names
unfoldable pub use Names.*

-- ==== What holds of each change of an outcome.

-- a path that is none of some is another than each
pub each-other : (path : List ℕ) (paths : List (List ℕ)) → list_any (bytes_eq path) paths ≡ false
    → AllByRecursion (λ other. bytes_eq path other ≡ false) paths
each-other path [] none = tt
each-other path (other ∷ paths) none = let p = or_parts (bytes_eq path other) _ none in (p.0, each-other path paths p.1)

-- what holds of each byte that is added to the files of a run holds of what is added
module _ (P : Change → Type 0) where
  pub log-keeps : (debug : Option Debugging) (trace : Trace)
      → AllByRecursion (Fills P) (option_to_list (log_of (option_map (λ debugging. debugging.task) debug)))
      → AllByRecursion P (filling_all (log_texts debug trace))
  log-keeps None trace fills = tt
  log-keeps (Some debugging) trace fills = text-keeps P (Some debugging.task.log) _ fills

  appended-keeps : (file : Option (List ℕ)) → AllByRecursion (Fills P) (option_to_list file) → (bytes : List ℕ)
      → AllByRecursion P (appended_to file bytes)
  appended-keeps None fills bytes = tt
  appended-keeps (Some file) fills bytes = each-map P (λ byte. ToFile file byte) bytes fills.0

-- ---- what is done

-- what an outcome does once its files are made
abbrev pub later_changes : Option Nodes → Result Work Refusal → List Change
later_changes files (Ok (Run job)) = run_changes job (trace_of files job)
later_changes files (Ok (Write texts)) = filling_all texts
later_changes files (Ok (Print text)) = to_out text
later_changes files (Ok (RunLine job)) = to_out (line_bytes job)
later_changes files (Err refusal) = to_err (refusal_line refusal)

pub made-first : (files : Option Nodes) (found : Result Work Refusal)
    → (outcome_of files found).changes ≡ creating_all (written_paths found) ++ later_changes files found
unfolding running writing
made-first = grind arith

separate : (path : List ℕ) (script : ScriptView) (root_view : RootView) → IsOutside root_view.root path
    → IsSeparateFrom path (first_devices script root_view)
separate = grind arith

-- at a path outside the root: what holds of each change that leaves the path alone, and of each byte for an output, holds of all of it
module _ (path : List ℕ) (P : Change → Type 0) (spares : (change : Change) → Spares path change → P change)
    (files : Option Nodes) where
  run-then : (job : RunJob) → IsOutside job.task.root path → AllByRecursion (Fills P) (written_paths (Ok (Run job)))
      → AllByRecursion P (later_changes files (Ok (Run job)))
  unfolding reference_trace
  run-then job outside fills =
      let task = job.task in
      let trace = trace_of files job in
      let all = each-parts (Fills P) _ (option_to_list task.report) fills in
      let shown = each-parts (Fills P) _ (option_to_list task.samples) all.0 in
      let first = each-parts (Fills P) _ (option_to_list task.frames) shown.0 in
      let begun = first_state (new_core job.rom) job.script (root_view_in files task.root) in
      let ran = run-keeps path P spares (wanted_outputs task.frames task.samples) (appended-keeps P task.frames first.1)
      (appended-keeps P task.samples shown.1) _ job.script begun (separate path job.script (root_view_in files task.root) outside) in
      each-append P (reporting task.report job.script.version trace) _
      (each-append P trace.changes _ ran (text-keeps P task.report _ all.1)) (log-keeps P job.debug trace first.0)

  pub later-keeps : (found : Result Work Refusal) → IsOutside (root_of_work found) path → AllByRecursion (Fills P) (written_paths found)
      → AllByRecursion P (later_changes files found)
  later-keeps (Ok (Run job)) outside fills = run-then job outside fills
  later-keeps (Ok (Write texts)) outside fills = filling-keeps P texts fills
  later-keeps (Ok (Print text)) outside fills = each-map P (λ byte. ToOut byte) text (λ byte. spares (ToOut byte) tt)
  later-keeps (Ok (RunLine job)) outside fills = each-map P (λ byte. ToOut byte) (line_bytes job) (λ byte. spares (ToOut byte) tt)
  later-keeps (Err refusal) outside fills = each-map P (λ byte. ToErr byte) (refusal_line refusal) (λ byte. spares (ToErr byte) tt)

-- so an outcome leaves a path alone that is none of its files and lies outside the root
pub outcome-spares : (path : List ℕ) (files : Option Nodes) (found : Result Work Refusal) → list_any (bytes_eq path) (written_paths found) ≡ false
    → IsOutside (root_of_work found) path → AllByRecursion (Spares path) (outcome_of files found).changes
outcome-spares path files found none outside =
    let others = each-other path (written_paths found) none in
    subst (AllByRecursion (Spares path)) (sym (made-first files found))
    (each-append (Spares path) _ _ (creating-keeps (Spares path) (written_paths found) others)
    (later-keeps path (Spares path) (λ change spares. spares) files found outside
    (each-so _ _ (written_paths found) (λ file other byte. other) others)))

-- ==== Making the outputs changes nothing beneath the root, and its parent stays what it is.

spared-node : (path : List ℕ) (nodes : Nodes) (paths : List (List ℕ)) → (list_any (bytes_eq path) paths ≡ true → ⊥)
    → fin.get (files_by nodes (creating_all paths)) path ≡ fin.get nodes path
spared-node path nodes paths none =
    node-by path nodes (creating_all paths)
    ∙ spared-by path (creating_all paths) _ (creating-keeps (Spares path) paths (each-other path paths (false_from_ne_true _ none)))

below-made : (root : List ℕ) (paths : List (List ℕ)) (nodes : Nodes)
    → ((path : List ℕ) → list_any (bytes_eq path) paths ≡ true → meets path root ≡ false)
    → below (Some root) (files_by nodes (creating_all paths)) ≡ below (Some root) nodes
below-made = grind (arith, below-same, spared-node, apart-outside)

parent-made : (root : List ℕ) (paths : List (List ℕ)) (nodes : Nodes)
    → ((path : List ℕ) → list_any (bytes_eq path) paths ≡ true → meets path root ≡ false)
    → parent_is_folder (Some root) (files_by nodes (creating_all paths)) ≡ parent_is_folder (Some root) nodes
parent-made root paths nodes apart = go (parent_of root) refl
  where
    go : (parent : Option (List ℕ)) → parent_of root ≡ parent → is_folder_at (files_by nodes (creating_all paths)) parent ≡ is_folder_at nodes parent
    go None is = refl
    go (Some parent) is =
        ap is_folder (spared-node parent nodes paths
        (λ among. true≢false (sym (parent_under root parent is) ∙ (meets_parts parent root (apart parent among)).2)))

pub root_view-made : (root : Option (List ℕ)) (paths : List (List ℕ)) (nodes : Nodes)
    → IfSome root (λ r. (path : List ℕ) → list_any (bytes_eq path) paths ≡ true → meets path r ≡ false)
    → root_view_in (Some (files_by nodes (creating_all paths))) root ≡ root_view_in (Some nodes) root
root_view-made None paths nodes apart = refl
root_view-made (Some root) paths nodes apart = grind (arith, below-made, parent-made)

-- ==== What is said of a tree of known contents.

-- this holds where the contents are known
pub where_known : (tree : Option Nodes) (P : Nodes → Type 0) → ((nodes : Nodes) → tree ≡ Some nodes → P nodes) → IfSome tree P
where_known None P all = tt
where_known (Some nodes) P all = all nodes refl

-- and this too
pub where_both : (tree : Option Nodes) (P Q : Nodes → Type 0) → IfSome tree P → ((nodes : Nodes) → tree ≡ Some nodes → P nodes → Q nodes)
    → IfSome tree Q
where_both None P Q holds next = tt
where_both (Some nodes) P Q holds next = next nodes refl holds
