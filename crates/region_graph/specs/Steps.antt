-- Lists of steps, of any kind: each is put to the state that the one before it handed back, and answers.
use Rattle.std.specs.Prelude.{List, [], ◌∷◌}

-- the last state of a model, and the answer to each step
abbrev pub run_by : {M C : Type 0} → (M → C → M) → M → List C → M
run_by next m [] = m
run_by next m (c ∷ cs) = run_by next (next m c) cs

abbrev pub answers_by : {M C A : Type 0} → (M → C → A) → (M → C → M) → M → List C → List A
answers_by answer next m [] = []
answers_by answer next m (c ∷ cs) = answer m c ∷ answers_by answer next (next m c) cs

-- `Step s c a t`: the step c, put to the state s, answered a and handed back t
module _ {S C A : Type 0} (Step : S → C → A → S → Type 0) where
  -- from s the steps cs gave the answers and the last state
  pub data Steps : S → List C → List A → S → Type 0 where
    none : {s : S} → Steps s [] [] s
    more : {s t u : S} {c : C} {a : A} {cs : List C} {given : List A} → Step s c a t → Steps t cs given u → Steps s (c ∷ cs) (a ∷ given) u
