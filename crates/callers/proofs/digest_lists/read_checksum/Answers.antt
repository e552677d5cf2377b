-- However a list is read, its first entry has the same digest.
use Rattle.std.proofs.Common.{◌≡◌, ◌∙◌, List, Option, None, Some, ap, slice_get, sym}
use Rattle.std.specs.Prelude.{map, option_map}
use Rattle.std.proofs.lemmas.Option.{slice_get-map}
use Rattle.hex_core.specs.declared.digit.CheckCase.TheVariants as policy
use Rattle.hex_io.specs.declared.digests.Entry.{Entry}
use Rattle.hex_io.specs.ListLaws.{entry_parts}
use Rattle.callers.specs.DigestLists.{digest_of, first_digest}
use Rattle.callers.proofs.digest_lists.read_checksum.Goals as goal

first-is : (items slice : List (Entry 32)) (first : Option (Entry 32)) → slice ≡ items → first ≡ slice_get slice 0 → option_map (λ e. digest_of (entry_parts e)) first ≡ first_digest (map entry_parts items)
first-is items slice None is at = ap (option_map digest_of) (ap (option_map entry_parts) (at ∙ ap (λ l. slice_get l 0) is) ∙ sym (slice_get-map entry_parts items 0))
first-is items slice (Some e) is at = ap (option_map digest_of) (ap (option_map entry_parts) (at ∙ ap (λ l. slice_get l 0) is) ∙ sym (slice_get-map entry_parts items 0))

pub returns-in-Some : goal.returns-in-Some
returns-in-Some c =
    let items = c.in_ok-entries.entries.items in let lists = c.in_ok-entries.ensures.answer in
    ((items, lists), λ entries other. first-is items c.deref.result.now (Some c.in-Some.entry.now) c.deref.ensures.value c.in-Some.ensures.value ∙ ap first_digest (c.a_source_lists_one_list.ensures.parts 32 policy.None c.args.file.now items entries lists other))

pub returns : goal.returns
returns c =
    let items = c.in_ok-entries.entries.items in let lists = c.in_ok-entries.ensures.answer in
    ((items, lists), λ entries other. first-is items c.deref.result.now None c.deref.ensures.value c.in-None.ensures.value ∙ ap first_digest (c.a_source_lists_one_list.ensures.parts 32 policy.None c.args.file.now items entries lists other))
