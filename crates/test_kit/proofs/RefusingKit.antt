-- What the walks of `allocate` and of `deallocate` import.
pub use Rattle.std.proofs.Common.{◌≡◌, ℕ, ◌+◌, Bool, true, false, List, [], ◌∷◌, Ok, Err, refl, ap, w64}
pub use mir.Syntax.{Args, a_type, dnil, dcons}
pub use mir.Val.{Val, vunit, vint, vptr}
pub use mir.MapTy.{inst_fn}
pub use base.Logic.{id⊢, never, fst∗}
pub use base.Fml.{ftrue, fsep, flft}
pub use prog.Memory.{size, align, capped, up}
pub use prog.Wp.{WpFn}
pub use types.Logic.{sem}
pub use types.Kit.{‵, raw, ◌⊛◌, some, later, given, at_ret, Sq, prop, ◌$◌, ◌∵◌, !, qed, move, keep, drop, use0, use1, use2}
pub use types.Kit.{split, split3, join, pick, learn, fsplit, fjoin, feq_i, feq_l, regoal, suffices, await, done}
pub use types.Part.{agg}
pub use types.Run.{lit, unit_lit, stop, fld, addr, un, no_more, and_then, of_opd, first, branches, skips, exec, returns, returns_within, enter}
pub use types.ByLocal.{alloc_all, pass_all, free_all, look_at, get, through, sets, lands_as, env}
pub use contract.BorrowLft.{◌⊑◌, ⊑_trans}
pub use contract.Monad.{fact}
pub use contract.Running.{tables}
pub use denote.Builtin.{bool, unit, usize, RawPtr, RefOf}
pub use denote.Exit.{yes}
pub use denote.Opens.{unhide}
pub use denote.Param.{bounded, param}
pub use denote.Plain.{uint_vals, uint_Tells}
pub use denote.RattleType.{owns}
pub use denote.RawPtr.{Ptr, block_ptr, null_ptr, ptr_val, in_a_block, rawptr_vals, rawptr_Tells, room_for}
pub use denote.Ref.{shr_vals}
pub use denote.Signature.{plain, types_at}
pub use denote.Steps.{heard, nothing, only}
pub use denote.Triple.Call.{calls_at}
pub use denote.Triple.Spec.{triple_of}
pub use denote.Triple.Table.{framed}
pub use denote.Triple.Walked.{Stays, stay_dropped, walk_of, ends_at, Goes-dropped}
pub use Rattle.std.proofs.alloc.Calls.{Al, α, seen, token, Answer, answer_val, Answer-typed, Answer-Ok, Answer-err, Takes, at_takes}
pub use Rattle.std.proofs.alloc.Calls.{Answered, Takes-goes, Takes-gives, answers, Gives, at_gives, Gives-goes, Gives-Gives}
pub use Rattle.std.proofs.raw_atomic.Walks.{proved}
pub use Rattle.std.proofs.VecSteps.Shapes.{after}
