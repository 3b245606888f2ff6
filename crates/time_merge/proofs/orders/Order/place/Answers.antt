use Rattle.time_merge.proofs.PlaceOrders.{place_of_one}
use Rattle.time_merge.proofs.orders.Order.place.Goals as goal

pub returns-in-OfOneList : goal.returns-in-OfOneList
returns-in-OfOneList c = place_of_one c.args.self.now c.in-OfOneList.field-0 c.args.number c.in-OfOneList.is c.requires
