-- What the walks by hand over lent slices import.
pub use Rattle.std.proofs.Common.{◌≡◌, refl, ap, sym, subst, ◌∙◌, ℕ, ◌^◌, ◌<◌, ◌≤◌, arith, lit<, Bool, true, false, List, [], ◌∷◌, length, w8, w64, MutBor, Result, Ok, Err}
pub use seplogic.Ra.Ura.{Ura}
pub use mir.Syntax.{Body, Callee, Fn, Lifetime, Local, Opd as Operand, Place, Rv, Ty, named, erased, mut, ty_int, ty_ref, place, deref, field, local, value_local, copy, rv_opd, addr_of, aggregate, int, variant, seq, assign, call, switch, arm, no_default, return}
pub use mir.Facts.{and_yes}
pub use mir.Val.{Val, WT, has_ty, vbool, vint, vptr}
pub use base.Logic.{SProp, ent, sep, emp, id⊢}
pub use base.Fml.{Lft, GName, Share, ftrue, flft, fdead, fobs}
pub use base.Fraction.{full_share}
pub use base.Stored.{coded_list}
pub use prog.Model.{Model}
pub use prog.Wired.{Wired}
pub use prog.Wp.{Calls, Closed, Env, Loops}
pub use types.Logic.{Logic, sem}
pub use types.Kit.{Item, Post, lands, runs, mean, ‵, ◌⊛◌, raw, some, given, later, at_ret, Seq, Sq, prop, ◌$◌, ◌∵◌, !, qed, move, keep, drop, rewrite, split, split3, join, fsplit, fsplit3, fjoin, feq_i, use1, use2, use3, await, pick, learn, suffices, frame, done}
pub use types.Part.{whole, sub, agg}
pub use types.Run.{Opds, Rv as Gives, stop, fld, hop, from, addr, of_opd, lit, true_lit, false_lit, and_then, no_more, first, exec, returns, enter}
pub use types.ByLocal.{alloc_all, pass_all, free_all, look_at, look_in_at, get, get_in, get_tag, holding, through, sets, sets_last, lands_as, env}
pub use types.Match.{by_variants, vrt, in_variant}
pub use types.Tokens.{lft_new, lft_end, name_done}
pub use contract.BorrowLft.{◌⊑◌}
pub use contract.Monad.{fact}
pub use contract.Running.{Running, tables}
pub use borrow.Rule.Slice.Lend.{kept_f, sl_relend, sl_relent_backˡ}
pub use borrow.Table.Owned.{MutSlice as BareSlice}
pub use denote.Builtin.{u8, usize, bool}
unfoldable pub use denote.Follow.{follows_by}
pub use denote.FollowSlice.{heres_id}
pub use denote.Exit.{Last, yes, no}
pub use denote.Laws.{Is, shows}
pub use denote.Memory.{lone}
pub use denote.Param.{layout, param}
pub use denote.Plain.{bool_vals, bool_Makes}
pub use denote.RattleType.{RattleType, owns}
pub use denote.Ref.{MutRef, NamedLft, mut_vals, mut_Tells}
pub use denote.Signature.{Slot, type_at, plain, mut_ref_to, mut_slice_of, shr_slice_of}
pub use denote.Slice.{ShrSlice, MutSlice, Room, finally, slice_val, shr_slice_vals, shr_slice_Tells, mut_slice_vals, mut_slice_Tells}
pub use denote.Steps.{nothing, only, owned, peeks, heard}
pub use denote.Triple.Call.{calls_at}
pub use denote.Triple.Clauses.{Clauses, Ended, Lasts, at_exit, closing, lasts}
pub use denote.Triple.Entry.{Res, alive}
pub use denote.Triple.Spec.{Meets, triple_of}
pub use denote.Triple.Table.{framed}
pub use denote.Triple.Walked.{Goes-dropped, Goes-spent_ref, Goes-spent_slice, Silent, Stays, ends_at, says, stay_dropped, walk_of}
pub use Rattle.std.proofs.ResultValues.{ok_val}
pub use Rattle.std.proofs.raw_atomic.Walks.{proved}
pub use Rattle.hex_core.specs.Calls.{Decodes, DecodesFront, Encodes, EncodesFront}
pub use Rattle.hex_core.specs.Loan.{LendsAnswer}
