mod RefusingKit
