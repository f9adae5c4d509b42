-- Pins: the nodes they meet, the flags they give, and 19. Document 02, routes from DEF.
-- Assumes nothing.
use Rattle.std.specs.Prelude.{ℕ, zero, suc, ◌+◌, ◌*◌, ◌/◌, not, ◌||◌, cond, List, ltb, length, get_or}
use Rattle.std.specs.Int.Bits.{bit_or}
use Rattle.laws.specs.Bytes.{le16}
use Rattle.net.specs.Refusal.{Verdict, refused_if, first_of}
use Rattle.routes.specs.declared.Node.{Node}
use Rattle.routes.specs.Nodes.{stands_on, known}

-- pins come as x, y (16 bits each), layer, flags (8 each)
abbrev pub pin_bytes : ℕ
pin_bytes = 6

abbrev pub pin_x : List ℕ → ℕ → ℕ
pin_x pins k = le16 pins (pin_bytes * k)

abbrev pub pin_y : List ℕ → ℕ → ℕ
pin_y pins k = le16 pins (pin_bytes * k + 2)

abbrev pub pin_layer : List ℕ → ℕ → ℕ
pin_layer pins k = get_or pins (pin_bytes * k + 4) 0

abbrev pub pin_flags : List ℕ → ℕ → ℕ
pin_flags pins k = get_or pins (pin_bytes * k + 5) 0

-- how many there are; one that is cut short is the last
abbrev pub pin_count : List ℕ → ℕ
pin_count pins = (length pins + 5) / pin_bytes

-- 19: a pin meets no node or is cut short; the place is the pin, from 0
unfoldable pub pin_refusal : List Node → List ℕ → ℕ → Verdict
pin_refusal nodes pins k =
    refused_if (ltb (length pins) (pin_bytes * k + pin_bytes) || not (known nodes (pin_x pins k) (pin_y pins k) (pin_layer pins k))) 19 k

unfoldable pub pins_refusal : List Node → List ℕ → Verdict
pins_refusal nodes pins = first_of (pin_count pins) (λ k. pin_refusal nodes pins k)

-- pins on one node join their flags: those of the first k pins
unfoldable pub flags_of : List ℕ → Node → ℕ → ℕ
flags_of pins node zero = 0
flags_of pins node (suc k) =
    bit_or (flags_of pins node k) (cond (stands_on (pin_x pins k) (pin_y pins k) (pin_layer pins k) node) (pin_flags pins k) 0)
