-- The rounds of a decode (document 01, "Rounds"), over any check list: the words of the rounds run, and the chosen one.
use Rattle.std.specs.Prelude.{cond, List, [], ◌∷◌, ℕ, zero, suc, eqb, ltb, Float, length, take}
use Rattle.tanner.specs.Checks.{Word, Checks, count, First, first_unsatisfied}
use Rattle.one_round.specs.Round.{Decode, first_messages, answers, decided, sent, initial_word}

-- "The round loop stops at the first word whose count is 0": no word follows one of count 0
abbrev pub unless_done : Decode → Word → List Word → List Word
unless_done d w more = cond (eqb (count d.checks w) 0) [] more

-- "A round is check step, decision, count, new messages." The words of at most n rounds from these messages.
unfoldable pub words_from : Decode → ℕ → List Float → List Word
words_from d zero ms = []
words_from d (suc n) ms =
    let ans = answers d ms in
    let w = decided d ans in
    let more = words_from d n (sent d ans) in
    w ∷ unless_done d w more

-- "the words of the rounds run": none where the initial word's count is 0 or the limit is 0
unfoldable pub round_words : Decode → ℕ → List Word
round_words d limit =
    let more = words_from d limit (first_messages d) in
    unless_done d (initial_word d) more

-- "The rounds run are those from the first to the one that reaches count 0, or to the limit where none does" (change request N1: their number)
unfoldable pub rounds_run : Decode → ℕ → ℕ
rounds_run d limit = length (round_words d limit)

-- "A word replaces the kept one only if its count is smaller."
abbrev pub better : Checks → Word → Word → Word
better cs kept w = cond (ltb (count cs w) (count cs kept)) w kept

unfoldable pub chosen_from : Checks → Word → List Word → Word
chosen_from cs kept [] = kept
chosen_from cs kept (w ∷ ws) = chosen_from cs (better cs kept w) ws

-- the word that a decode chooses among the initial word and those of the rounds run
unfoldable pub chosen : Decode → ℕ → Word
chosen d limit = chosen_from d.checks (initial_word d) (round_words d limit)

-- its count, its first unsatisfied check (change request N8), and its first k bits
unfoldable pub chosen_count : Decode → ℕ → ℕ
chosen_count d limit = count d.checks (chosen d limit)

unfoldable pub chosen_first : Decode → ℕ → First
chosen_first d limit = first_unsatisfied d.checks (chosen d limit)

unfoldable pub chosen_bits : Decode → ℕ → ℕ → List ℕ
chosen_bits d limit k = take k (chosen d limit)
