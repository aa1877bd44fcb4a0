-- Request C-16, of any way to convert archives: each conversion gives the bytes back that the other one was given.
use Rattle.std.specs.Prelude.{◌≡◌, true, false, ◌⊎◌, List, ℕ, ◌≤◌, length, take, get_or, Result}
use contract.Lifetimes.{Lfts}
use Rattle.std.specs.Borrow.{Bor, MutBor}
use Rattle.region_graph.specs.Refusals.{not_refused, broken_layout, has_versions}
use Rattle.region_graph.specs.Calls.{Question, first_no}
use Rattle.region_graph.specs.declared.refusals.Refusal.{Refusal}
use Rattle.region_routes.specs.Hooks.{written}
use Rattle.region_archive.specs.Image.{latest, unversioned}
use Rattle.region_archive.specs.File.{FileMeaning, is_image, read_model}
use Rattle.region_archive.specs.Promise.{Written, written_answer, written_as}
use Rattle.region_convert.specs.Conversion.{forward_questions, back_questions}
use Rattle.region_convert.proofs.forward.Reads as forward
use Rattle.region_convert.proofs.back.Reads as back
use Rattle.region_host.specs.CNumbers.{written_of}
use Rattle.region_host.proofs.region_archive_forward.Reads as archive_forward
use Rattle.region_host.proofs.region_archive_back.Reads as archive_back

-- a conversion of a file: the buffer before, the answer and the buffer after
abbrev pub Converting : Type 1
Converting = List ℕ → List ℕ → Written → List ℕ → Type 0

-- demand 1: the number is that of the first question answered no, at most 17 or 21, or 0; where it is not 0 the buffer is as it was
pub record AskedFirst (qs : List Question) (a : Written) (entry exit : List ℕ) : Type 0 where
  pub first : (written_as a).number ≡ first_no qs
  pub known : ((written_as a).number ≤ broken_layout) ⊎ ((written_as a).number ≡ has_versions)
  pub kept : ((written_as a).number ≡ not_refused → ⊥) → exit ≡ entry

-- the file t is written at the start of the buffer, and later places keep their values
abbrev pub Puts : List ℕ → List ℕ → Written → List ℕ → Type 0
Puts t entry a exit = (a ≡ Written.Bytes (length t)) × (exit ≡ written t entry)

-- a conversion makes from s the file t, which means the same sets
pub record Makes (s t entry exit : List ℕ) : Type 0 where
  pub puts : exit ≡ written t entry
  pub same : (f : FileMeaning s) (g : FileMeaning t) → (is_image g ≡ true) × (read_model g ≡ read_model f)

pub record RoundTrips (forwards backs : Converting) : Type 0 where
  pub forward_asked : {s entry exit : List ℕ} {a : Written} → forwards s entry a exit → (f : FileMeaning s)
      → AskedFirst (forward_questions f entry) a entry exit
  pub back_asked : {s entry exit : List ℕ} {a : Written} → backs s entry a exit → (f : FileMeaning s)
      → AskedFirst (back_questions f entry) a entry exit
  -- forward makes a file of version 3, back one of another version
  pub forward_makes : {s entry exit : List ℕ} {n : ℕ} → forwards s entry (Written.Bytes n) exit
      → Makes s (take n exit) entry exit × (get_or (take n exit) 0 0 ≡ latest)
  pub back_makes : {s entry exit : List ℕ} {n : ℕ} → backs s entry (Written.Bytes n) exit
      → Makes s (take n exit) entry exit × (get_or (take n exit) 0 0 ≡ latest → ⊥)
  -- forward, then back, gives the first file's bytes; so does back, then forward
  pub forward_back : {s entry exit entry' exit' : List ℕ} {n : ℕ} {a : Written} → forwards s entry (Written.Bytes n) exit
      → backs (take n exit) entry' a exit' → length s ≤ length entry' → Puts s entry' a exit'
  pub back_forward : {s entry exit entry' exit' : List ℕ} {n : ℕ} {a : Written} → backs s entry (Written.Bytes n) exit
      → forwards (take n exit) entry' a exit' → length s ≤ length entry' → Puts s entry' a exit'
  -- back answers 21 exactly where the file is an image of version 3 whose graph has versions; then no older file means that graph
  pub cannot_go_back : {s entry exit : List ℕ} {a : Written} → backs s entry a exit → (f : FileMeaning s) → get_or s 0 0 ≡ latest → is_image f ≡ true
      → unversioned (read_model f) ≡ false → a ≡ Written.Refused has_versions
  pub went_not_back : {s entry exit : List ℕ} → backs s entry (Written.Refused has_versions) exit → (f : FileMeaning s)
      → (get_or s 0 0 ≡ latest) × (is_image f ≡ true) × (unversioned (read_model f) ≡ false)
  pub no_older : {s t entry exit : List ℕ} → backs s entry (Written.Refused has_versions) exit → (f : FileMeaning s) (g : FileMeaning t)
      → is_image g ≡ true → read_model g ≡ read_model f → get_or t 0 0 ≡ latest

-- the crate's own calls
pub data ValueForward : List ℕ → List ℕ → Written → List ℕ → Type 0 where
  by_forward : (κs : Lfts 2) (s : Bor (List ℕ)) (was out : MutBor (List ℕ)) (a : Result ℕ Refusal)
      → forward.Learnt κs (s, (was, tt)) a (s, (out, tt)) → ValueForward s.now was.now (written_answer a) out.now

pub data ValueBack : List ℕ → List ℕ → Written → List ℕ → Type 0 where
  by_back : (κs : Lfts 2) (s : Bor (List ℕ)) (was out : MutBor (List ℕ)) (a : Result ℕ Refusal)
      → back.Learnt κs (s, (was, tt)) a (s, (out, tt)) → ValueBack s.now was.now (written_answer a) out.now

-- for C: what it reads in the number
pub data LentForward : List ℕ → List ℕ → Written → List ℕ → Type 0 where
  by_archive_forward : (κs : Lfts 2) (s : Bor (List ℕ)) (was out : MutBor (List ℕ)) (v : ℕ) → archive_forward.Learnt κs (s, (was, tt)) v (s, (out, tt))
      → LentForward s.now was.now (written_of v) out.now

pub data LentBack : List ℕ → List ℕ → Written → List ℕ → Type 0 where
  by_archive_back : (κs : Lfts 2) (s : Bor (List ℕ)) (was out : MutBor (List ℕ)) (v : ℕ) → archive_back.Learnt κs (s, (was, tt)) v (s, (out, tt))
      → LentBack s.now was.now (written_of v) out.now
