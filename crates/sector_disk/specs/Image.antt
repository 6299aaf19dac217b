-- An image: the bytes of a device, sector after sector, each of 512 bytes.
use Rattle.std.specs.Prelude.{◌≡◌, ◌⊎◌, ℕ, ◌+◌, ◌*◌, List, ◌++◌, length, take, drop}

-- the content of sector i of an image, or of a run of sectors
abbrev pub sector : ℕ → List ℕ → List ℕ
sector i image = take 512 (drop (512 * i) image)

-- the image after these bytes are written from sector first on
abbrev pub written : ℕ → List ℕ → List ℕ → List ℕ
written first bytes image = take (512 * first) image ++ bytes ++ drop (512 * first + length bytes) image

-- each sector of the mixture is that of the old image or that of the new one (`whole`), independently of the
-- others
pub record Mixes (old whole mixture : List ℕ) : Type 0 where
  pub size : length mixture ≡ length old
  pub each : (i : ℕ) → (sector i mixture ≡ sector i old) ⊎ (sector i mixture ≡ sector i whole)
