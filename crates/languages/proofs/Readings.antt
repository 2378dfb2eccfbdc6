-- A script's reading, line by line. Assumes nothing.
use Rattle.std.proofs.Common.{◌≡◌, ℕ, ◌+◌, ◌<◌, ◌≤◌, List, ◌∷◌, [], ◌++◌, length, get_or, drop, Some, None, Option, Bor, Ok, Err, MatchResult, IsErrAnd, Result, sym, ap, ◌∙◌, length-append, zero-add, true, lit<}
use Rattle.std.specs.Iterator.Adapters.{enumerate_source, enumerate_count, enumerate_steps}
use Rattle.std.specs.List.{enumerate_from}
use Rattle.std.specs.Str.Iter.{split_steps, split_text, split_has_more, split_pattern}
use Rattle.std.specs.Str.Pattern.{FindsChar}
use Rattle.std.proofs.lemmas.Iterator.{YieldsList}
use Rattle.std.specs.Iterator.{Yields}
use Rattle.std.specs.declared.iter.Enumerate.{Enumerate}
use Rattle.std.specs.declared.str.Split.{Split}
use Rattle.std.proofs.lemmas.Iterator.Consumers.{YieldsList-from_enumerate, YieldsList-at, YieldsList-turn, YieldsList-end}
use Rattle.std.proofs.lemmas.Iterator.Splits.{YieldsList-from_str_split}
use Rattle.std.proofs.lemmas.List.FromFn.{get_or-enumerate_from, length-enumerate_from}
use Rattle.std.proofs.lemmas.Result.{err_from_is_err_and}
use Rattle.std.proofs.lemmas.List.{drop_more, drop_all}
use Rattle.failures.specs.Answers.{UnlessMemory}
use Rattle.failures.specs.declared.Failure.{Failure}
use Rattle.failures.specs.declared.Failure.TheVariants.{Because, Memory}
use Rattle.std.specs.Global.{Vec}
use Rattle.languages.specs.Scripts.{lines_of, onward, of_line, read_lines, read_script, Parsed}
use Rattle.languages.specs.declared.bad_lines.BadLine.{BadLine}

-- how a `for` over a text's lines with their numbers goes on
abbrev pub line_steps : Enumerate (Split ℕ) → Option (ℕ × Bor (List ℕ)) → Enumerate (Split ℕ) → Type 0
line_steps = enumerate_steps (split_steps FindsChar (λ a b. b ≡ a))

abbrev pub IsOverLines : List ℕ → Enumerate (Split ℕ) → Type 0
IsOverLines text s = YieldsList {B = ℕ × List ℕ} line_steps (λ p. (p.0, p.1.now)) s (enumerate_from 0 (lines_of text))

pub numbered_lines : {q r s : _} (text : List ℕ) → r ≡ s → enumerate_source s ≡ q → split_text q ≡ text → split_has_more q ≡ true → split_pattern {P = ℕ} q ≡ 10 → enumerate_count s ≡ 0 → IsOverLines text r
numbered_lines text i e t more p n = YieldsList-at i (YieldsList-from_enumerate (YieldsList-at e (YieldsList-from_str_split 10 text (lit< tt) t more p)) n)

-- whether this is line i of the text, of which k have gone by
abbrev pub IsLine : List ℕ → ℕ → ℕ → List ℕ → Type 0
IsLine text k i line = (k < length (lines_of text)) × (i ≡ k) × (line ≡ get_or (lines_of text) k line)

-- the turn of such a `for`, and its end
module _ {s : Enumerate (Split ℕ)} (t u : Enumerate (Split ℕ)) (text : List ℕ) (all : IsOverLines text s) (xs : List (ℕ × Bor (List ℕ))) (so_far : Yields line_steps s xs t) (r : Option (ℕ × Bor (List ℕ))) (steps : line_steps t r u) where
  pub line_turn : (i : ℕ) (line : Bor (List ℕ)) → r ≡ Some (i, line) → IsLine text (length xs) i line.now
  line_turn i line is =
      let turn = YieldsList-turn all xs t so_far r u (i, line) is steps in
      let n : length xs < length (lines_of text) = rw length-enumerate_from at turn.0 in
      let h : ◌≡◌ {A = ℕ × List ℕ} (i, line.now) (0 + length xs, get_or (lines_of text) (length xs) line.now) = turn.1 ∙ get_or-enumerate_from 0 (lines_of text) (length xs) (i, line.now) n in
      (n, ap (λ (p : ℕ × List ℕ). p.0) h ∙ zero-add (length xs), ap (λ (p : ℕ × List ℕ). p.1) h)

  pub lines_end : r ≡ None → length xs ≡ length (lines_of text)
  lines_end is = (YieldsList-end all xs t so_far r u is steps).1 ∙ length-enumerate_from 0 (lines_of text)

-- the first k lines made these plans, and the others say the rest
module _ {P E : Type 0} (add : List P → List ℕ → Result (List P) E) (text : List ℕ) (k : ℕ) (plans : List P) (reading : read_lines add (k + 1) plans (drop k (lines_of text)) ≡ read_script add text) where
  pub reading_ends : length (lines_of text) ≤ k → read_script add text ≡ Ok plans
  reading_ends n = sym reading ∙ ap (λ (ls : List (List ℕ)). read_lines add (k + 1) plans ls) (drop_all k (lines_of text) n)

  -- line k decides
  module _ (i : ℕ) (line : List ℕ) (at : IsLine text k i line) where
    onward_is : onward (k + 1) (add plans line) (λ ps. read_lines add (k + 1 + 1) ps (drop (k + 1) (lines_of text))) ≡ read_script add text
    onward_is =
        ap (λ (l : List ℕ). onward (k + 1) (add plans l) (λ ps. read_lines add (k + 1 + 1) ps (drop (k + 1) (lines_of text)))) at.2
        ∙ ap (λ (ls : List (List ℕ)). read_lines add (k + 1) plans ls) (sym (drop_more (lines_of text) k line at.0)) ∙ reading

    kept : (more : List P) (added : Result (Unit {0}) (Failure E)) (r : Result (Unit {0}) (Failure (BadLine E))) (tells : Failure E → Failure (BadLine E) → Type 0) (done : Unit {0}) → MatchResult added (λ x. r ≡ Ok x) (λ failed. IsErrAnd r (tells failed)) → r ≡ Ok done → UnlessMemory (λ _. more) (add plans line) added → add plans line ≡ Ok more
    kept more (Ok u) r tells done m w a = a
    kept more (Err failed) r tells done m w a = absurd (let none : ⊥ = rw w at m in none)

    pub reading_more : {A : Type 0} (ys : List A) (y : A) (more : List P) (added : Result (Unit {0}) (Failure E)) (r : Result (Unit {0}) (Failure (BadLine E))) (tells : Failure E → Failure (BadLine E) → Type 0) (done : Unit {0}) → k ≡ length ys → MatchResult added (λ x. r ≡ Ok x) (λ failed. IsErrAnd r (tells failed)) → r ≡ Ok done → UnlessMemory (λ _. more) (add plans line) added → read_lines add (length (ys ++ (y ∷ [])) + 1) more (drop (length (ys ++ (y ∷ []))) (lines_of text)) ≡ read_script add text
    reading_more ys y more added r tells done l m w a =
        simp (length-append, sym l)
        (ap (λ (q : Result (List P) E). onward (k + 1) q (λ ps. read_lines add (k + 1 + 1) ps (drop (k + 1) (lines_of text)))) (sym (kept more added r tells done m w a)) ∙ onward_is)

    reading_stops : (x : E) → add plans line ≡ Err x → read_script add text ≡ Err (record { line = k + 1; expected = x })
    reading_stops x a =
        sym onward_is ∙ ap (λ (r : Result (List P) E). onward (k + 1) r (λ ps. read_lines add (k + 1 + 1) ps (drop (k + 1) (lines_of text)))) a

    -- what is answered where adding the line failed, and the reason was told as that of this line
    told_stop : {S : Type 0} (seen : S → P) (failed : Failure E) (told : Failure (BadLine E)) → told ≡ of_line (k + 1) failed → UnlessMemory {T = Unit {0}} {X = List P} (λ _. plans) (add plans line) (Err failed) → Parsed seen add text (Err told)
    told_stop seen (Because x) told t a = rw t (reading_stops x a)
    told_stop seen Memory told t a = rw t tt

    pub stopped : {S : Type 0} (seen : S → P) (more : List P) (added : Result (Unit {0}) (Failure E)) (r : Result (Unit {0}) (Failure (BadLine E))) (tells : Failure E → Failure (BadLine E) → Type 0) (told : Failure (BadLine E)) (answer : Result (Vec S) (Failure (BadLine E))) → MatchResult added (λ x. r ≡ Ok x) (λ failed. IsErrAnd r (tells failed)) → r ≡ Err told → ((failed : Failure E) (f : Failure (BadLine E)) → tells failed f → f ≡ of_line (i + 1) failed) → UnlessMemory (λ _. more) (add plans line) added → IsErrAnd answer (λ f. f ≡ told) → Parsed seen add text answer
    stopped seen more (Ok u) r tells told answer m w by a s = absurd (cc (m, w))
    stopped seen more (Err failed) r tells told answer m w by a s =
        let p = err_from_is_err_and answer s in
        rw (p.1, p.2) (told_stop seen failed told (rw (sym at.1) (by failed told (rw w at m))) a)
