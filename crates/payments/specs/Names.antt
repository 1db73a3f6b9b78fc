-- What programs call the activities of the shop.
use Rattle.std.specs.Prelude.{ℕ, List, codes}
use Rattle.payments.specs.declared.shop.Shop.{Shop}
use Rattle.payments.specs.declared.shop.Shop.TheVariants as shop

abbrev pub shop_name : Shop → List ℕ
shop_name shop.Charge = codes "charge"
shop_name shop.Ship = codes "ship"
