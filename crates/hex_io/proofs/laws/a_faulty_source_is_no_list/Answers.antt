-- Each line of a list is an entry's, which has no fault.
use Rattle.std.proofs.Common.{◌≡◌, ℕ, ◌+◌, ◌*◌, ◌≤◌, true, sym, ap, ◌∙◌, arith, None, List, []}
use Rattle.std.proofs.Common.{◌∷◌, ◌++◌, length, take, get_or, length-drop}
use Rattle.std.specs.List.{AllZip}
use Rattle.std.proofs.lemmas.Bool.Decides.{nat_tests}
use Rattle.std.proofs.lemmas.List.{get_or-drop}
use Rattle.std.proofs.lemmas.Option.{none-some}
use Rattle.hex_core.specs.declared.digit.CheckCase.{CheckCase}
use Rattle.hex_core.specs.Refusal.{source_refusal}
use Rattle.hex_core.specs.Search.{first_invalid}
use Rattle.hex_core.specs.Text.{Spells}
use Rattle.hex_io.specs.declared.digests.Entry.{Entry}
use Rattle.hex_io.specs.declared.digests.LineFault.{LineFault}
use Rattle.hex_io.specs.Lists.{FirstFault, LineIs, Lists, has_mark, line_fault, mark}
use Rattle.hex_io.proofs.laws.a_faulty_source_is_no_list.Goals as goal

line-clear : (N : ℕ) (c : CheckCase) (line : List ℕ) (e : Entry N) → (Spells c (take (2 * N) line) e.digest → source_refusal c (take (2 * N) line) ≡ None) → LineIs c line e → line_fault c N line ≡ None
line-clear N c line e accepts is =
    let long : 2 * N + 3 ≤ length line = omega (arith, ap length is.behind, length-drop (2 * N) line, is.named) in
    let none = accepts is.spelled in let valid : first_invalid c (take (2 * N) line) ≡ None = grind (arith, nat_tests, none) in
    let space : get_or line (2 * N) 0 ≡ 32 = grind (arith, get_or-drop (2 * N) line 0 0, is.behind) in
    let next : get_or line (2 * N + 1) 0 ≡ mark e.binary = sym (get_or-drop (2 * N) line 1 0) ∙ ap (λ l. get_or l 1 0) is.behind in
    let mark_at : has_mark N line ≡ true = grind (arith, nat_tests, space, next) in
    grind (arith, nat_tests, long, valid, mark_at)

-- the entry of a line among others
entry-of : {N : ℕ} (c : CheckCase) (before : List (List ℕ)) (here : List ℕ) (after : List (List ℕ)) (entries : List (Entry N)) → AllZip (LineIs c) (before ++ here ∷ after) entries → (e : Entry N) × LineIs c here e
entry-of c [] here after [] all = absurd all
entry-of c [] here after (e ∷ entries) all = (e, all.0)
entry-of c (line ∷ before) here after [] all = absurd all
entry-of c (line ∷ before) here after (e ∷ entries) all = entry-of c before here after entries all.1

faulty : (N : ℕ) (c : CheckCase) (s : List ℕ) (line : ℕ) (why : LineFault) (entries : List (Entry N))
    → ((t bytes : List ℕ) → Spells c t bytes → source_refusal c t ≡ None) → FirstFault c N s line why → Lists c s entries → ⊥
faulty N c s line why entries accepts f all =
    let w = entry-of c f.before f.here f.after entries (rw f.lines at all) in
    let clear = line-clear N c f.here w.0 (accepts (take (2 * N) f.here) w.0.digest) w.1 in
    none-some why (sym clear ∙ f.fault)

pub returns : goal.returns
returns c = record {
  none = λ n case s line why entries f all.
      faulty n case s line why entries (λ t bytes spelled. (c.a_source_is_accepted_where_it_spells_a_list.ensures.accepted case t).1 (bytes, spelled)) f all;
}
