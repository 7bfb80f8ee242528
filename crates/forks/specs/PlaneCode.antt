-- The places of an unrolled part in one plane, that is with one value of their flags, in the order
-- in which they are put; that these are the places of the definitions is said in crates/places
-- (proofs/Planes).
use Rattle.std.specs.Prelude.{List, [], ◌∷◌, ◌++◌, Bool, ◌&&◌, ℕ, suc, ◌+◌, ltb}
use Rattle.rules.specs.Basics.{pick}
use Rattle.rules.specs.Places.{Unrolled, u_letter, u_caret, u_dollar, u_empty, u_seq, u_alt, u_opt, u_star, Branches, u_nil, u_cons, skips, Place, p_letter, p_caret, p_dollar, p_fork, p_end, ways_in_turn, size}
use Rattle.place_codes.specs.Planes.{start_by, start_no, round_by}
use Rattle.place_codes.specs.declared.Plane.{Plane}
use Rattle.place_codes.specs.declared.Behind.{Behind}

-- the entry of a place, or END where the place does not have these flags
unfoldable pub used : Plane → Behind → Place → Place
used o k p = pick (ltb o.flags k.values) p p_end

-- whether a copy that leads back to its fork has a flag: where there is one value only, none has
unfoldable pub flags_copy : ℕ → Unrolled → Bool
unfolding skips
flags_copy f t = ltb 1 f && skips t

-- where branches begin, if entry k is behind them
unfoldable pub starts_in : Plane → Branches → ℕ → ℕ → List ℕ
unfolding size start_no
starts_in o u_nil b k = []
starts_in o (u_cons t ts) b k = start_no o b (b + size t) k ∷ starts_in o ts (b + size t) k

unfoldable mutual
  unfolding size start_by round_by used flags_copy starts_in

  pub plane_of : Plane → Unrolled → ℕ → Behind → List Place
  plane_of o (u_letter c) b k = used o k (p_letter c k.set) ∷ []
  plane_of o u_caret b k = used o k (p_caret k.here) ∷ []
  plane_of o u_dollar b k = used o k (p_dollar k.here) ∷ []
  plane_of o u_empty b k = []
  plane_of o (u_seq x y) b k = plane_of o x b (start_by o (b + size x) (b + size x + size y) k) ++ plane_of o y (b + size x) k
  plane_of o (u_alt ts) b k = used o k (p_fork (starts_in o ts (suc b) k.here)) ∷ planes_of o ts (suc b) k
  plane_of o (u_opt lazy t) b k = used o k (p_fork (ways_in_turn lazy (start_by o (suc b) (suc b + size t) k).here k.here)) ∷ plane_of o t (suc b) k
  plane_of o (u_star lazy t) b k =
      used o k (p_fork (ways_in_turn lazy (start_by o (suc b) (suc b + size t) (round_by o (flags_copy o.factor t) b k)).here k.here))
      ∷ plane_of o t (suc b) (round_by o (flags_copy o.factor t) b k)

  pub planes_of : Plane → Branches → ℕ → Behind → List Place
  planes_of o u_nil b k = []
  planes_of o (u_cons t ts) b k = plane_of o t b k ++ planes_of o ts (b + size t) k
