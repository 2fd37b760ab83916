-- Room for injectors.
use Rattle.std.specs.Prelude.{◌≡◌, ◌≤◌, ℕ, [], vec_len, vec_capacity}
use Rattle.bp_session.specs.declared.places.Places.{Places}

module _ {S : Type 0} where
  -- there is room for this many injectors, and none was started
  pub record HasRoom (p : Places S) (count : ℕ) : Type 0 where
    pub berths : vec_len p.berths ≡ count
    pub unread : p.readings.items ≡ []
    pub none : vec_len p.readings ≡ 0
    pub readings : count ≤ vec_capacity p.readings
    pub empty : p.back.items ≡ []
    pub nothing : vec_len p.back ≡ 0
    pub back : count ≤ vec_capacity p.back
