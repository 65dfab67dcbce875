-- How many brackets are open at once in a text of a value (01, "Numbers").
use Rattle.std.specs.Prelude.{ℕ, suc, max}
use Rattle.model.specs.Value.{Value, null, boolean, number, string, array, object, Values, vnil, vcons, Members, mnil, mcons}

abbrev mutual
  pub depth_of : Value → ℕ
  depth_of null = 0
  depth_of (boolean b) = 0
  depth_of (number s) = 0
  depth_of (string s) = 0
  depth_of (array vs) = suc (depth_of_all vs)
  depth_of (object ms) = suc (depth_of_members ms)

  -- of the deepest
  pub depth_of_all : Values → ℕ
  depth_of_all vnil = 0
  depth_of_all (vcons v vs) = max (depth_of v) (depth_of_all vs)

  pub depth_of_members : Members → ℕ
  depth_of_members mnil = 0
  depth_of_members (mcons n v ms) = max (depth_of v) (depth_of_members ms)
